-- A store before other writes.
use Rattle.std.proofs.Common.{◌≡◌, ◌≢◌, ◌≤◌, ◌⊎◌, ℕ, suc, List, ◌∷◌, Option, Some, None, IfSome, subst, arith}
use Rattle.std.proofs.Common.{inl, inr}
use Rattle.io_ports.specs.Shelf.{Stays, Grows, GrowsByPart}
use Rattle.std.specs.List.{AllByRecursion}
use Rattle.command_frame.specs.declared.status.Status.{Status}
use Rattle.command_frame.specs.declared.status.Status.TheVariants as statuses
use Rattle.command_frame.specs.Change.{View, Change, HasCalls}
use Rattle.command_frame.specs.Writes.{Writes, StopsAtStore, StopsAtOutput, OthersStay}
use Rattle.command_frame.proofs.Ending.{between}

-- a file was stored under this name
pub record IsStored (name text : List ℕ) (change : Change) : Type 0 where
  pub content : IfSome (change.after.held name) (λ b. b ≡ text)
  pub others : (n : List ℕ) → n ≢ name → Stays (change.before.held n) (change.after.held n)
  pub output : Stays change.before.said change.after.said
  pub calls : HasCalls change 1
  pub later : change.before.faults ≤ change.after.faults

stays_on : (x y z : Option (List ℕ)) → Stays x y → Stays y z → Stays x z
stays_on x y None p q = tt
stays_on x y (Some b) p q = subst (λ told. Stays x told) q p

keeps : (y z : Option (List ℕ)) (text : List ℕ) → IfSome y (λ b. b ≡ text) → Stays y z → IfSome z (λ b. b ≡ text)
keeps y None text p q = tt
keeps y (Some b) text p q = subst (λ told. IfSome told (λ b. b ≡ text)) q p

grows_on : (x y z : Option (List ℕ)) (bytes : List ℕ) → Stays x y → Grows y z bytes → Grows x z bytes
grows_on x y None bytes p q = tt
grows_on x y (Some b) bytes p q = (q.0, subst (λ told. Stays x told) q.1 p, q.2)

grows_by_part_on : (x y z : Option (List ℕ)) (bytes : List ℕ) → Stays x y → GrowsByPart y z bytes
    → GrowsByPart x z bytes
grows_by_part_on x y None bytes p q = tt
grows_by_part_on x y (Some b) bytes p q = (q.0, q.1, subst (λ told. Stays x told) q.2 p, q.3)

-- From a to b a file was stored, and from b to c the rest was written, under other names.
module _ (name text : List ℕ) (names texts : List (List ℕ)) (word : List ℕ) (a b c : View)
    (stored : IsStored name text (between a b)) (apart : AllByRecursion (λ other. name ≢ other) names)
    (others : OthersStay names (between b c)) where
  pub others_on : OthersStay (name ∷ names) (between a c)
  others_on other o = stays_on _ (b.held other) _ (stored.others other o.0) (others other o.1)

  first : IfSome (c.held name) (λ bytes. bytes ≡ text)
  first = keeps (b.held name) _ text stored.content (others name apart)

  stops_on : (status_name : List ℕ)
      → StopsAtStore 0 names (record { texts = texts; word = word }) (between b c) status_name
      ⊎ StopsAtOutput 0 names (record { texts = texts; word = word }) (between b c) status_name
      → StopsAtStore 0 (name ∷ names) (record { texts = text ∷ texts; word = word }) (between a c) status_name
      ⊎ StopsAtOutput 0 (name ∷ names) (record { texts = text ∷ texts; word = word }) (between a c) status_name
  stops_on status_name (inl s) = inl (record {
    place = suc s.place;
    stands = s.stands;
    stored = (first, s.stored);
    others = λ other o. stays_on _ (b.held other) _ (stored.others other o.0) (s.others other o.1);
    said = stays_on _ b.said _ stored.output s.said;
    calls = omega (arith, s.calls, stored.calls);
  })
  stops_on status_name (inr s) = inr (record {
    named = s.named;
    stored = (first, s.stored);
    said = grows_by_part_on _ b.said _ word stored.output s.said;
    calls = omega (arith, s.calls, stored.calls);
  })

  pub writes_on : (status : Status)
      → Writes 0 names (record { texts = texts; word = word }) (between b c) status
      → Writes 0 (name ∷ names) (record { texts = text ∷ texts; word = word }) (between a c) status
  writes_on statuses.Ok w = record {
    stored = (first, w.stored);
    said = grows_on _ b.said _ word stored.output w.said;
    calls = omega (arith, w.calls, stored.calls);
  }
  writes_on (statuses.WriteFault status_name) w = (omega (arith, w.0, stored.later), stops_on status_name w.1)
  writes_on status w = absurd w
