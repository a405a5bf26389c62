-- Document 01's limits, each number once. Each is an `abbrev`, so that arithmetic sees the number.
use Rattle.std.specs.Prelude.{ℕ}

-- the bytes of a file
abbrev pub most_bytes : ℕ
most_bytes = 60_000

-- the blocks around a block
abbrev pub most_blocks : ℕ
most_blocks = 32

-- a page's width, in columns
abbrev pub most_columns : ℕ
most_columns = 6_553

-- the bytes of a plain page, for each byte of its file
abbrev pub plain_per_byte : ℕ
plain_per_byte = 67

-- the bytes of an HTML page, for each byte of its file, and those around its items: the document's, of which the body's are a part
abbrev pub html_per_byte : ℕ
html_per_byte = 236

abbrev pub html_frame : ℕ
html_frame = 1_072

-- the cap of widths, in tenths of a column
abbrev pub most_tenths : ℕ
most_tenths = 65_535

-- what a block is indented by, in tenths of a column
abbrev pub indentation : ℕ
indentation = 20

-- the tags of a style's fields
abbrev pub first_style : ℕ
first_style = 32

abbrev pub last_style : ℕ
last_style = 39
