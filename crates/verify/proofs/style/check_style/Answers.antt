-- `verify::style::check_style` meets its contract: the length, then what the tag asks for.
use Rattle.rules.proofs.Basics.{refl, sym, ap, ◌∙◌, arith}
use Rattle.rules.specs.Walk.{right_length, right_opacity, right_size}
use Rattle.verify.specs.Said.{styled}
use Rattle.verify.proofs.TagLaws.{never}
use Rattle.verify.proofs.ContentLaws.{fixed_length, length_wrong, by_content, opacity_sound, opacity_faulty, size_sound, size_faulty, no_content}
use Rattle.verify.proofs.style.check_style.Goals as goal
use Rattle.verify.proofs.style.check_style.Goals.{in-33, in-35, in_default}

pub returns-then-not-right_style_length : goal.returns-then-not-right_style_length
unfolding styled
returns-then-not-right_style_length c p = length_wrong _ _ p (sym c.if-not-right_style_length.ensures)

pub word-requires : goal.word-requires
unfolding right_length
word-requires c = fixed_length _ c.args.v.now 33 4 (λ m. refl) c.in-33.is (sym c.if-not-right_style_length.ensures)

pub bounds-v-0 : goal.bounds-v-0
unfolding right_length
bounds-v-0 c =
    omega (arith, fixed_length _ c.args.v.now 35 1 (λ m. refl) c.in-35.is (sym c.if-not-right_style_length.ensures))

pub returns-then-right : goal.returns-then-right
unfolding styled right_length
returns-then-right c p =
    let l = sym c.if-not-right_style_length.ensures in
    by_content _ _ p l
    (elim c.match-tag.branch [
      | in-33 w ↦ opacity_sound _ _ p w.in-33.is (ap right_opacity (sym w.word.ensures) ∙ sym w.right_opacity-right.ensures ∙ sym w.right-is ∙ c.if-right.true)
      | in-35 w ↦ size_sound _ _ p w.in-35.is (fixed_length _ c.args.v.now 35 1 (λ m. refl) w.in-35.is l) (ap right_size (sym w.from.ensures) ∙ sym w.right_size-right.ensures ∙ sym w.right-is ∙ c.if-right.true)
      | in_default w ↦ no_content _ _ p c.requires.0 (λ e. omega (arith, w.in_default, e)) (λ e. omega (arith, w.in_default, e))
    ])

pub returns-else-right : goal.returns-else-right
unfolding styled right_length
returns-else-right c p =
    let l = sym c.if-not-right_style_length.ensures in
    by_content _ _ p l
    (elim c.match-tag.branch [
      | in-33 w ↦ opacity_faulty _ _ p w.in-33.is (ap right_opacity (sym w.word.ensures) ∙ sym w.right_opacity-right.ensures ∙ sym w.right-is ∙ c.if-right.false)
      | in-35 w ↦ size_faulty _ _ p w.in-35.is (fixed_length _ c.args.v.now 35 1 (λ m. refl) w.in-35.is l) (ap right_size (sym w.from.ensures) ∙ sym w.right_size-right.ensures ∙ sym w.right-is ∙ c.if-right.false)
      | in_default w ↦ never (sym w.right-is ∙ c.if-right.false)
    ])
