-- Reading back, computed: a styled text with CR, & and < in an anchor whose name has > and <, and a text that is a reference itself; and bytes that no page has.
use Rattle.rules.proofs.Basics.{◌≡◌, refl, List, ◌∷◌, ◌++◌, ℕ}
use Rattle.rules.specs.Bytes.{ascii}
use Rattle.rules.specs.Result.{accepted}
use Rattle.rules.specs.Html.{strict_escape, opening}
use Rattle.rules.specs.Answers.{strict_tree, plain_text, body_text_by}
use Rattle.rules.specs.ReadBack.{at_text, at_value, shown_from, ending, ReadBack}
use Rattle.rules.specs.Cases.{unhex}
use Rattle.rules.proofs.Open.{all_open}

unfoldable pub file : List ℕ
file = unhex "020021 120005 613E623C63 010016 100009 200003 FF0080 240000 110007 780D263C790A7A 010008 110005 26616D703B"

unfoldable pub page : List ℕ
page = unhex "78 0D 26 3C 79 0A 7A 26616D703B"

pub plain_shown : plain_text file ≡ accepted page
unfolding all_open file page
plain_shown = refl

unfoldable pub strictly : List ℕ
strictly = opening ++ ascii "<a id=\"a>b<c\" href=\"#a>b<c\"><sub style=\"color:#ff0080;font-size:0.8em;\">x&#13;&amp;&lt;y\nz</sub></a>&amp;amp;</pre>"

pub strict_shown : body_text_by strict_tree strict_escape file ≡ accepted strictly
unfolding all_open file strictly
strict_shown = refl

pub strict_back : ReadBack strictly (10 ∷ page)
unfolding all_open strictly page
strict_back = record { taken_out = refl; ends = refl }

-- another reference shows itself, and a `>` in a value ends no tag
pub other_reference : ReadBack (ascii "a&b;c&lt;") (ascii "a&b;c<")
unfolding all_open
other_reference = record { taken_out = refl; ends = refl }

pub left_open : (shown_from at_text (ascii "a<a href=\"b>c") ≡ ascii "a") × (ending at_text (ascii "a<a href=\"b>c") ≡ at_value)
unfolding all_open
left_open = (refl, refl)
