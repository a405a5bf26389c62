-- Masks and a page's list, computed: a styled text of five bytes, a 7, and an anchor with a text.
use Rattle.rules.proofs.Basics.{◌≡◌, refl, List, [], ◌∷◌, ℕ}
use Rattle.rules.specs.Result.{accepted}
use Rattle.rules.specs.Lines.{made, copied}
use Rattle.rules.specs.Mask.{newlines, newlines_and_escapes, mask}
use Rattle.rules.specs.Alike.{plain_page, page_list}
use Rattle.rules.specs.Cases.{unhex}
use Rattle.rules.proofs.Open.{all_open}

unfoldable pub file : List ℕ
file = unhex "01000F 100004 230001 05 110005 610A62263C 070003 630A64 02000E 120002 4142 010006 110003 7A3C79"

pub masked : mask newlines file ≡ unhex "01000F 100004 230001 05 110005 780A787878 070003 780A78 02000E 120002 4142 010006 110003 787878"
unfolding all_open file
masked = refl

pub masked_for_html : mask newlines_and_escapes file ≡ unhex "01000F 100004 230001 05 110005 780A78263C 070003 780A78 02000E 120002 4142 010006 110003 783C78"
unfolding all_open file
masked_for_html = refl

pub listed : page_list plain_page file
    ≡ accepted (copied 13 ∷ made 10 ∷ copied 15 ∷ copied 16 ∷ copied 17 ∷ copied 38 ∷ copied 39 ∷ copied 40 ∷ [])
unfolding all_open file
listed = refl
