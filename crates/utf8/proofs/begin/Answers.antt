-- `utf8::begin` meets its contract: the bytes of each arm's range are all followed alike, as `following` computes at each of them.
use Rattle.rules.proofs.Basics.{refl, arith}
use Rattle.std.specs.Prelude.{None}
use Rattle.rules.specs.Utf8.{following}
use Rattle.utf8.specs.Owing.{ranges}
use Rattle.utf8.proofs.Table.{between}
use Rattle.utf8.proofs.begin.Goals as goal

pub returns-in-224 : goal.returns-in-224
returns-in-224 c =
    unfold following ranges in between 0xe0 0xe0 c.wants.ensures refl c.args.b (omega arith) (omega arith)

pub returns-in-237 : goal.returns-in-237
returns-in-237 c =
    unfold following ranges in between 0xed 0xed c.wants-in-237.ensures refl c.args.b (omega arith) (omega arith)

pub returns-in-240 : goal.returns-in-240
returns-in-240 c =
    unfold following ranges in between 0xf0 0xf0 c.wants-in-240.ensures refl c.args.b (omega arith) (omega arith)

pub returns-in-244 : goal.returns-in-244
returns-in-244 c =
    unfold following ranges in between 0xf4 0xf4 c.wants-in-244.ensures refl c.args.b (omega arith) (omega arith)

pub returns-in-0-to-127 : goal.returns-in-0-to-127
returns-in-0-to-127 c =
    unfold following ranges in between 0x00 0x7f c.wants-in-0-to-127.ensures refl c.args.b (omega arith) (omega arith)

pub returns-in-194-to-223 : goal.returns-in-194-to-223
returns-in-194-to-223 c =
    unfold following ranges in between 0xc2 0xdf c.wants-in-194-to-223.ensures refl c.args.b (omega arith) (omega arith)

pub returns-in-225-to-236 : goal.returns-in-225-to-236
returns-in-225-to-236 c =
    unfold following ranges in between 0xe1 0xec c.wants-in-225-to-236.ensures refl c.args.b (omega arith) (omega arith)

pub returns-in-238-to-239 : goal.returns-in-238-to-239
returns-in-238-to-239 c =
    unfold following ranges in between 0xee 0xef c.wants-in-238-to-239.ensures refl c.args.b (omega arith) (omega arith)

pub returns-in-241-to-243 : goal.returns-in-241-to-243
returns-in-241-to-243 c =
    unfold following ranges in between 0xf1 0xf3 c.wants-in-241-to-243.ensures refl c.args.b (omega arith) (omega arith)

pub returns-in_default : goal.returns-in_default
returns-in_default c =
    unfold following ranges in between 0x80 0xc1 {r = None} refl refl c.args.b (omega arith) (omega arith)

pub returns-in_default-2 : goal.returns-in_default-2
returns-in_default-2 c =
    unfold following ranges in between 0xf5 0xff {r = None} refl refl c.args.b (omega arith) (omega arith)
