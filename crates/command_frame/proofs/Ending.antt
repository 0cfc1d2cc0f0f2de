-- How the loads, the work and the writes of a command make its end. A command is proved from its last step to its
-- first: `at_work` or `written` behind all loads, then `after_load` for each load that was made, and `at_load` for one
-- that failed.
use Rattle.std.proofs.Common.{◌≡◌, ℕ, zero, suc, ◌+◌, List, [], ◌∷◌, length, take, Option, Some}
use Rattle.std.proofs.Common.{◌<◌, None, IfSome, refl, sym, ◌∙◌, subst, arith, inl, inr, ◌⊎◌}
use Rattle.io_ports.specs.Shelf.{Rose, Stays, Grows, GrowsByPart}
use Rattle.command_frame.specs.declared.status.Status.{Status}
use Rattle.command_frame.specs.declared.status.Status.TheVariants as statuses
use Rattle.command_frame.specs.Change.{View, Change, HasCalls, IsUntouched}
use Rattle.command_frame.specs.Files.{Load, Content, IsRead, FailsToLoad, RefusesFile, limit_of}
use Rattle.command_frame.specs.Loading.{Loads, Fails}
use Rattle.command_frame.specs.Writes.{Output, Writes, StopsAtStore, StopsAtOutput, OthersStay}
use Rattle.command_frame.specs.Ends.{Calls, AreRead, StopsAtLoad, StopsAtWork, Publishes, Answers}
use Rattle.command_frame.specs.Ends.{OnRefusal, Ends, RefusesWork}

-- from one moment to another
abbrev pub between : View → View → Change
between a b = record { before = a; after = b }

stays : (before after : Option (List ℕ)) → after ≡ before → Stays before after
stays before None e = tt
stays before (Some b) e = sym e

on_refusal : (status : Status) (P : Type 0) → P → OnRefusal status P
on_refusal statuses.Ok P p = tt
on_refusal (statuses.WriteFault name) P p = tt
on_refusal status P p = p

untouched_others : (names : List (List ℕ)) (change : Change) → IsUntouched change → OthersStay names change
untouched_others names change u other o = stays (change.before.held other) (change.after.held other) (u.files other)

-- ---- the last step

module _ (command : Calls) (Means : List Content → Output → Type 0) (Refuses : List Content → Status → Type 0) where
  -- nothing was done for want of memory
  pub want_of_memory : (a : View) → Ends command Means Refuses (between a a) statuses.OutOfMemory
  want_of_memory a = record {
    answer = record { made = 0; most = omega arith; calls = refl };
    refusal = record { files = λ name. refl; output = refl };
    others = untouched_others command.stores (between a a) (record { files = λ name. refl; output = refl });
  }

-- a load failed, which is the first one
failed_answer : (load : Load) (loads : List Load) (stores : List (List ℕ)) (Means : List Content → Output → Type 0)
    (Refuses : List Content → Status → Type 0) (change : Change) (status : Status) → FailsToLoad load change status
    → HasCalls change 1 → Answers (record { loads = load ∷ loads; stores = stores }) Means Refuses change status
failed_answer load loads stores Means Refuses change statuses.Ok cause calls = absurd cause
failed_answer load loads stores Means Refuses change statuses.Usage cause calls = absurd cause
failed_answer load loads stores Means Refuses change (statuses.WriteFault name) cause calls = absurd cause
failed_answer load loads stores Means Refuses change statuses.OutOfMemory cause calls = record {
  made = 1;
  most = omega arith;
  calls = calls;
}
failed_answer load loads stores Means Refuses change status cause calls = inl (record {
  place = 0;
  load = load;
  stands = refl;
  contents = [];
  read = tt;
  cause = cause;
  calls = calls;
})

pub at_load : (load : Load) (loads : List Load) (stores : List (List ℕ)) (Means : List Content → Output → Type 0)
    (Refuses : List Content → Status → Type 0) (change : Change) (status : Status) → Fails load change status
    → Ends (record { loads = load ∷ loads; stores = stores }) Means Refuses change status
at_load load loads stores Means Refuses change status fails = record {
  answer = failed_answer load loads stores Means Refuses change status fails.cause fails.calls;
  refusal = on_refusal status (IsUntouched change) fails.untouched;
  others = untouched_others stores change fails.untouched;
}

-- the work was refused, behind all loads
refused_answer : (stores : List (List ℕ)) (Means : List Content → Output → Type 0)
    (Refuses : List Content → Status → Type 0) (a : View) (status : Status) → RefusesWork (Refuses []) status
    → Answers (record { loads = []; stores = stores }) Means Refuses (between a a) status
refused_answer stores Means Refuses a statuses.Ok cause = absurd cause
refused_answer stores Means Refuses a statuses.Usage cause = absurd cause
refused_answer stores Means Refuses a (statuses.WriteFault name) cause = absurd cause
refused_answer stores Means Refuses a statuses.OutOfMemory cause = record { made = 0; most = omega arith; calls = refl }
refused_answer stores Means Refuses a status cause = inr (record {
  contents = [];
  read = tt;
  refuses = cause;
  calls = refl;
})

pub at_work : (stores : List (List ℕ)) (Means : List Content → Output → Type 0)
    (Refuses : List Content → Status → Type 0) (a : View) (status : Status) → RefusesWork (Refuses []) status
    → Ends (record { loads = []; stores = stores }) Means Refuses (between a a) status
at_work stores Means Refuses a status cause = record {
  answer = refused_answer stores Means Refuses a status cause;
  refusal = on_refusal status (IsUntouched (between a a)) (record { files = λ name. refl; output = refl });
  others = untouched_others stores (between a a) (record { files = λ name. refl; output = refl });
}

-- all was computed, and the writes ended so
written_answer : (stores : List (List ℕ)) (Means : List Content → Output → Type 0)
    (Refuses : List Content → Status → Type 0) (output : Output) (change : Change) (status : Status)
    → Means [] output → Writes 0 stores output change status
    → Answers (record { loads = []; stores = stores }) Means Refuses change status
written_answer stores Means Refuses output change statuses.Ok means writes = record {
  contents = [];
  read = tt;
  output = output;
  means = means;
  writes = writes;
}
written_answer stores Means Refuses output change (statuses.WriteFault name) means writes = record {
  contents = [];
  read = tt;
  output = output;
  means = means;
  writes = writes;
}
written_answer stores Means Refuses output change status means writes = absurd writes

written_refusal : (stores : List (List ℕ)) (output : Output) (change : Change) (status : Status)
    → Writes 0 stores output change status → OnRefusal status (IsUntouched change)
written_refusal stores output change statuses.Ok writes = tt
written_refusal stores output change (statuses.WriteFault name) writes = tt
written_refusal stores output change status writes = absurd writes

pub written : (stores : List (List ℕ)) (Means : List Content → Output → Type 0)
    (Refuses : List Content → Status → Type 0) (output : Output) (change : Change) (status : Status)
    → Means [] output → Writes 0 stores output change status → OthersStay stores change
    → Ends (record { loads = []; stores = stores }) Means Refuses change status
written stores Means Refuses output change status means writes others = record {
  answer = written_answer stores Means Refuses output change status means writes;
  refusal = written_refusal stores output change status writes;
  others = others;
}

-- ---- a step before

-- From a to b a load was made, and from b to c the rest of the command.
module _ (load : Load) (content : Content) (a b c : View) (loads : Loads load content (between a b)) where
  held_before : (P : Option (List ℕ) → Type 0) (name : List ℕ) → P (b.held name) → P (a.held name)
  held_before P name p = subst P (loads.untouched.files name) p

  said_before : (P : Option (List ℕ) → Type 0) → P b.said → P a.said
  said_before P p = subst P loads.untouched.output p

  one_more : (made : ℕ) → HasCalls (between b c) made → HasCalls (between a c) (suc made)
  one_more zero h = h ∙ loads.calls
  one_more (suc made) h = omega (arith, h, loads.calls)

  calls_before : (made more : ℕ) → HasCalls (between b c) (suc (made + more))
      → HasCalls (between a c) (suc (suc made + more))
  calls_before made more h = omega (arith, h, loads.calls)

  rose_before : Rose b.faults c.faults → Rose a.faults c.faults
  rose_before h = omega (arith, h, loads.later)

  untouched_before : IsUntouched (between b c) → IsUntouched (between a c)
  untouched_before u = record {
    files = λ name. u.files name ∙ loads.untouched.files name;
    output = u.output ∙ loads.untouched.output;
  }

  others_before : (names : List (List ℕ)) → OthersStay names (between b c) → OthersStay names (between a c)
  others_before names others other o = held_before (λ before. Stays before (c.held other)) other (others other o)

  refusal_before : (status : Status) → OnRefusal status (IsUntouched (between b c))
      → OnRefusal status (IsUntouched (between a c))
  refusal_before statuses.Ok u = tt
  refusal_before (statuses.WriteFault name) u = tt
  refusal_before status u = untouched_before u

  read_before : (others : List Load) (contents : List Content) → AreRead others b.held contents
      → AreRead others a.held contents
  read_before [] [] read = tt
  read_before [] (x ∷ xs) read = absurd read
  read_before (o ∷ os) [] read = absurd read
  read_before (o ∷ os) (x ∷ xs) read = (
    held_before (λ told. IsRead o.format told x) o.name read.0,
    read_before os xs read.1,
  )

  cause_before : (other : Load) (status : Status) → FailsToLoad other (between b c) status
      → FailsToLoad other (between a c) status
  cause_before other (statuses.ReadFault name) cause = (cause.0, rose_before cause.1)
  cause_before other (statuses.TooLong name most) cause = (
    cause.0,
    cause.1,
    held_before (λ told. IfSome told (λ bytes. limit_of other.format < length bytes)) other.name
        cause.2,
  )
  cause_before other status cause = held_before (λ told. RefusesFile status other.format told) other.name cause

  stops_before : (made : ℕ) (stores : List (List ℕ)) (output : Output) (name : List ℕ)
      → StopsAtStore made stores output (between b c) name ⊎ StopsAtOutput made stores output (between b c) name
      → StopsAtStore (suc made) stores output (between a c) name
      ⊎ StopsAtOutput (suc made) stores output (between a c) name
  stops_before made stores output name (inl s) = inl (record {
    place = s.place;
    stands = s.stands;
    stored = s.stored;
    others = others_before (take (suc s.place) stores) s.others;
    said = said_before (λ before. Stays before c.said) s.said;
    calls = calls_before made s.place s.calls;
  })
  stops_before made stores output name (inr s) = inr (record {
    named = s.named;
    stored = s.stored;
    said = said_before (λ before. GrowsByPart before c.said output.word) s.said;
    calls = calls_before made (length stores) s.calls;
  })

  writes_before : (made : ℕ) (stores : List (List ℕ)) (output : Output) (status : Status)
      → Writes made stores output (between b c) status → Writes (suc made) stores output (between a c) status
  writes_before made stores output statuses.Ok w = record {
    stored = w.stored;
    said = said_before (λ before. Grows before c.said output.word) w.said;
    calls = calls_before made (length stores) w.calls;
  }
  writes_before made stores output (statuses.WriteFault name) w =
      (rose_before w.0, stops_before made stores output name w.1)
  writes_before made stores output status w = absurd w

  module _ (others : List Load) (stores : List (List ℕ)) (Means : List Content → Output → Type 0)
      (Refuses : List Content → Status → Type 0) where
    abbrev after : Calls
    after = record { loads = others; stores = stores }

    abbrev whole : Calls
    whole = record { loads = load ∷ others; stores = stores }

    publishes_before : (status : Status) → Publishes after (λ contents. Means (content ∷ contents)) (between b c) status
        → Publishes whole Means (between a c) status
    publishes_before status p = record {
      contents = content ∷ p.contents;
      read = (loads.read, read_before others p.contents p.read);
      output = p.output;
      means = p.means;
      writes = writes_before (length others) stores p.output status p.writes;
    }

    stopped_before : (status : Status)
        → StopsAtLoad others (between b c) status
        ⊎ StopsAtWork others (λ contents. Refuses (content ∷ contents)) (between b c) status
        → StopsAtLoad (load ∷ others) (between a c) status ⊎ StopsAtWork (load ∷ others) Refuses (between a c) status
    stopped_before status (inl s) = inl (record {
      place = suc s.place;
      load = s.load;
      stands = s.stands;
      contents = content ∷ s.contents;
      read = (loads.read, read_before (take s.place others) s.contents s.read);
      cause = cause_before s.load status s.cause;
      calls = one_more (suc s.place) s.calls;
    })
    stopped_before status (inr s) = inr (record {
      contents = content ∷ s.contents;
      read = (loads.read, read_before others s.contents s.read);
      refuses = s.refuses;
      calls = one_more (length others) s.calls;
    })

    answer_before : (status : Status)
        → Answers after (λ contents. Means (content ∷ contents)) (λ contents. Refuses (content ∷ contents))
        (between b c) status
        → Answers whole Means Refuses (between a c) status
    answer_before statuses.Ok x = publishes_before statuses.Ok x
    answer_before (statuses.WriteFault name) x = publishes_before (statuses.WriteFault name) x
    answer_before statuses.OutOfMemory x = record {
      made = suc x.made;
      most = omega (arith, x.most);
      calls = one_more x.made x.calls;
    }
    answer_before statuses.Usage x = absurd x
    answer_before status x = stopped_before status x

    pub after_load : (status : Status)
        → Ends after (λ contents. Means (content ∷ contents)) (λ contents. Refuses (content ∷ contents))
        (between b c) status
        → Ends whole Means Refuses (between a c) status
    after_load status ends = record {
      answer = answer_before status ends.answer;
      refusal = refusal_before status ends.refusal;
      others = others_before stores ends.others;
    }
