-- The first fault of the listing is the first fault of the replay, where the checks before it hold.
use Rattle.std.proofs.Common.{◌≡◌, ℕ, List, [], refl, ap, ◌∙◌, subst, inr}
use Rattle.word_program.specs.Program.{Source}
use Rattle.x86_instr.specs.Listings.{NamedLines}
use Rattle.op_order.specs.declared.slot.Slot.{Slot}
use Rattle.op_order.specs.Plans.{opening_of}
use Rattle.journal_rules.specs.declared.journal.Journal.{Journal}
use Rattle.journal_rules.specs.Legal.{IsWhole}
use Rattle.journal_rules.specs.Backed.{plain_cost}
use Rattle.journal_replay.specs.declared.fault.ReplayFault.{ReplayFault}
use Rattle.journal_replay.specs.declared.fault.ReplayFault.TheVariants as faults
use Rattle.journal_replay.specs.Checks.{Given, given, setup_in, last_plan, last_cost, HasJournal, IsFirstFault, renamed}
use Rattle.journal_replay.specs.Inside.{PlayerView, IsPlayed, IsListingFault}

by_fault : (g : Given) (fault : ReplayFault) → HasJournal g
    → IsListingFault g.program (last_plan g) (renamed g.program g.listing) (last_cost g) fault → IsFirstFault g fault
by_fault g (faults.Digest journal program) before f = absurd f
by_fault g (faults.Entry number rule) before f = absurd f
by_fault g (faults.Realises slot) before f =
    (before, record { within = f.within; before = f.before; here = f.here; over = f.over })
by_fault g (faults.Cost recorded table) before f = inr (before, f.0, f.1)
by_fault g (faults.NotProved why) before f = (before, f.0, f.1, f.2)
by_fault g faults.Memory before f = tt

-- p, q and r are the program, as it was handed to the parts of the replay
pub listing_fault : (program p q r : Source) (journal : Journal) (listing named : NamedLines) (player : PlayerView)
    (slots : List Slot) (cost : ℕ) (fault : ReplayFault) → p ≡ program → q ≡ program → r ≡ program
    → journal.opening ≡ plain_cost p (opening_of p)
    → IsPlayed (setup_in q journal) journal.entries [] player × IsWhole (setup_in q journal) journal.entries
    → named ≡ renamed r listing → slots ≡ player.plan.slots → cost ≡ player.least
    → IsListingFault program slots named cost fault → IsFirstFault (given program journal.digest journal listing) fault
listing_fault program p q r journal listing named player slots cost fault p_is q_is r_is opening all named_is slots_is
    cost_is f =
    let g : Given = given program journal.digest journal listing in
    let here = subst (λ s. IsPlayed (setup_in s journal) journal.entries [] player
    × IsWhole (setup_in s journal) journal.entries) q_is all in
    let played = here.0 in
    let plan = played.plan in
    let first = subst (λ s. journal.opening ≡ plain_cost s (opening_of s)) p_is opening in
    by_fault g fault (refl, first, (played.legal, here.1))
    (subst (λ l. IsListingFault program (last_plan g) l (last_cost g) fault)
    (named_is ∙ ap (λ s. renamed s listing) r_is)
    (subst (λ s. IsListingFault program s named (last_cost g) fault) (slots_is ∙ plan.is)
    (subst (λ c. IsListingFault program slots named c fault) (cost_is ∙ played.least) f)))
