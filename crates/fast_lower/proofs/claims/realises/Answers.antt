-- Where the listing differs first at a slot, it does not do what the plan says.
use Rattle.op_order.proofs.Differing.{differs_not_realised}
use Rattle.fast_lower.proofs.claims.realises.Goals as goal

pub returns-in-Some : goal.returns-in-Some
returns-in-Some c = (
  λ e. absurd (cc),
  λ is. absurd (differs_not_realised c.args.program.now c.args.plan.now.slots c.args.listing.now c.in-Some.field-0
      c.in-Some.ensures is),
)
