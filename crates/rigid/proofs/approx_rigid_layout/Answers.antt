-- `rigid::approx_rigid_layout` meets its contract: by the tag.
use Rattle.std.proofs.Common.{◌⊎◌, inl, inr, ◌≡◌}
use Rattle.rules.proofs.Basics.{refl}
use Rattle.rigid.specs.RigidIn.{by_tag}
use Rattle.rigid.proofs.Tags.{other_tag}
use Rattle.rigid.proofs.approx_rigid_layout.Goals as goal

pub returns-in-1 : goal.returns-in-1
returns-in-1 c = unfold by_tag in rw c.in-1.is c.run_layout.ensures

pub returns-in-2 : goal.returns-in-2
returns-in-2 c = unfold by_tag in rw c.in-2.is c.anchor_layout.ensures

pub returns-in-3 : goal.returns-in-3
returns-in-3 c = unfold by_tag in elim c.in-3.is [ inl e ↦ rw e | inr e ↦ rw e ]

pub returns-in-5 : goal.returns-in-5
returns-in-5 c = unfold by_tag in rw c.in-5.is

pub returns-in-7 : goal.returns-in-7
returns-in-7 c = unfold by_tag in rw c.in-7.is c.if_block_layout.ensures

pub returns-in_default : goal.returns-in_default
returns-in_default c = let n : (c.args.tag ≡ 3) ⊎ (c.args.tag ≡ 6) → ⊥ = search in other_tag _ (search) (search) (λ e. n (inl e)) (search) (λ e. n (inr e)) (search) refl
