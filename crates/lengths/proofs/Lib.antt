-- How long pages can be in HTML.
pub mod StyleLengths
pub mod HtmlLengths
