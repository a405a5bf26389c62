-- `verify::walk::check_in` meets its contract: a file over 60,000 bytes is refused by 1; else the walk over it answers.
use Rattle.rules.proofs.Basics.{◌∙◌}
use Rattle.rules.specs.Result.{said, refusal}
use Rattle.verify.proofs.CheckLaws.{long_file, sound_file, faulty_file, faulty_number}
use Rattle.verify.proofs.walk.check_in.Goals as goal

pub returns-then-file-gt-MOST_BYTES : goal.returns-then-file-gt-MOST_BYTES
returns-then-file-gt-MOST_BYTES c = unfold said refusal in long_file c.args.strict _ c.if-file-gt-MOST_BYTES.true

pub returns-then-said-eq-SOUND : goal.returns-then-said-eq-SOUND
returns-then-said-eq-SOUND c =
    unfold said in sound_file c.args.strict _ c.if-file-gt-MOST_BYTES.false _ c.check_fragment-said.ensures c.if-said-eq-SOUND.true

pub refused_by-requires : goal.refused_by-requires
refused_by-requires c =
    faulty_number _ c.args.file.now c.if-file-gt-MOST_BYTES.false _ c.check_fragment-said.ensures c.if-said-eq-SOUND.false

pub returns : goal.returns
returns c =
    unfold said in c.refused_by.ensures ∙ faulty_file c.args.strict _ c.if-file-gt-MOST_BYTES.false _ c.check_fragment-said.ensures c.if-said-eq-SOUND.false
