-- The first faulty line of a text, for any reading line by line.
use Rattle.std.proofs.Common.{◌≡◌, ℕ, ◌+◌, ◌-◌, ◌<◌, ◌≤◌, List, [], ◌∷◌, ◌++◌, length, take, drop, Option, Some, None}
use Rattle.std.proofs.Common.{Result, Ok, Err, refl, sym, ◌∙◌, subst, arith, suc, inl, inr, append_assoc}
use Rattle.std.proofs.lemmas.List.{take-append-drop, append-nil}
use Rattle.std.proofs.lemmas.Bool.{cases_order, cases_lt}
use Rattle.std.proofs.lemmas.List.{take-take}
use Rattle.base.specs.Options.{◌>>=◌, pick}
use Rattle.asm_tokens.specs.Whole.{Begins, IsFirstFault, read_lines}

-- the state that lines lead to
abbrev pub reach : {S : Type 0} → (S → List ℕ → Option S) → S → List (List ℕ) → Option S
reach step s [] = Some s
reach step s (line ∷ lines) = step s line >>= (λ t. reach step t lines)

-- what lines stand for
abbrev pub finished : {S V : Type 0} → (S → List ℕ → Option S) → (S → Option V) → S → List (List ℕ) → Option V
finished step done s lines = reach step s lines >>= done

ok_some : {V : Type 0} (o : Option V) (n : ℕ) (v : V) → pick {B = Result V ℕ} o (λ w. Ok w) (Err n) ≡ Ok v → o ≡ Some v
ok_some None n v e = cc
ok_some (Some w) n v e = cc

ok_step : {S V : Type 0} (o : Option S) (f : S → Result V ℕ) (g : S → Option V) (n : ℕ) (v : V)
    → ((t : S) → f t ≡ Ok v → g t ≡ Some v) → pick o f (Err n) ≡ Ok v → (o >>= g) ≡ Some v
ok_step None f g n v more e = cc
ok_step (Some t) f g n v more e = more t e

bind_bind : {S T V : Type 0} (o : Option S) (f : S → Option T) (g : T → Option V)
    → ((o >>= f) >>= g) ≡ (o >>= (λ t. f t >>= g))
bind_bind None f g = refl
bind_bind (Some t) f g = refl

-- a reading that ends well reads what the lines stand for
pub read_ok : {S V : Type 0} (step : S → List ℕ → Option S) (done : S → Option V) (s : S) (lines : List (List ℕ))
    (n : ℕ) (v : V) → read_lines step done s lines n ≡ Ok v → finished step done s lines ≡ Some v
read_ok step done s [] n v e = ok_some (done s) n v e
read_ok step done s (line ∷ lines) n v e =
    bind_bind (step s line) (λ t. reach step t lines) done
    ∙ ok_step (step s line) (λ t. read_lines step done t lines (n + 1)) (λ t. finished step done t lines) n v
    (λ t. read_ok step done t lines (n + 1) v) e

some_ok : {V : Type 0} (o : Option V) (n : ℕ) (v : V) → o ≡ Some v → pick {B = Result V ℕ} o (λ w. Ok w) (Err n) ≡ Ok v
some_ok o n v e = rw e refl

some_step : {S V : Type 0} (o : Option S) (f : S → Result V ℕ) (g : S → Option V) (n : ℕ) (v : V)
    → ((t : S) → g t ≡ Some v → f t ≡ Ok v) → (o >>= g) ≡ Some v → pick o f (Err n) ≡ Ok v
some_step None f g n v more e = cc
some_step (Some t) f g n v more e = more t e

-- what the lines stand for is read
pub ok_read : {S V : Type 0} (step : S → List ℕ → Option S) (done : S → Option V) (s : S) (lines : List (List ℕ))
    (n : ℕ) (v : V) → finished step done s lines ≡ Some v → read_lines step done s lines n ≡ Ok v
ok_read step done s [] n v e = some_ok (done s) n v e
ok_read step done s (line ∷ lines) n v e =
    some_step (step s line) (λ t. read_lines step done t lines (n + 1)) (λ t. finished step done t lines) n v
    (λ t. ok_read step done t lines (n + 1) v)
    (sym (bind_bind (step s line) (λ t. reach step t lines) done) ∙ e)

reach-append : {S : Type 0} (step : S → List ℕ → Option S) (s : S) (xs ys : List (List ℕ))
    → reach step s (xs ++ ys) ≡ (reach step s xs >>= (λ t. reach step t ys))
reach-append step s [] ys = refl
reach-append step s (x ∷ xs) ys = through (step s x) (λ t. reach step t (xs ++ ys)) (λ t. reach step t xs)
    (λ t. reach step t ys) (λ t. reach-append step t xs ys)
  where
    through : {S : Type 0} (o : Option S) (f g h : S → Option S) → ((t : S) → f t ≡ (g t >>= h))
        → (o >>= f) ≡ ((o >>= g) >>= h)
    through None f g h each = refl
    through (Some t) f g h each = each t

-- k lines are read, and the next one is not, or there is none and the text ends too early
pub record FaultAt {S V : Type 0} (step : S → List ℕ → Option S) (done : S → Option V) (s : S) (lines : List (List ℕ))
    (k : ℕ) : Type 0 where
  pub inside : k ≤ length lines
  pub state : S
  pub before : reach step s (take k lines) ≡ Some state
  pub stuck : k < length lines → reach step s (take (suc k) lines) ≡ None
  pub short : length lines ≤ k → finished step done s lines ≡ None

err_none : {V : Type 0} (o : Option V) (n m : ℕ) → pick {B = Result V ℕ} o (λ w. Ok w) (Err n) ≡ Err m
    → (o ≡ None) × (m ≡ n)
err_none None n m e = (refl, cc)
err_none (Some w) n m e = cc

err_step : {S V : Type 0} (o : Option S) (f : S → Result V ℕ) (n m : ℕ) (P : Type 0) → (o ≡ None → m ≡ n → P)
    → ((t : S) → o ≡ Some t → f t ≡ Err m → P) → pick o f (Err n) ≡ Err m → P
err_step None f n m P none some e = none refl cc
err_step (Some t) f n m P none some e = some t refl e

-- where a fault lies
pub read_err : {S V : Type 0} (step : S → List ℕ → Option S) (done : S → Option V) (s : S) (lines : List (List ℕ))
    (n m : ℕ) → read_lines step done s lines n ≡ Err m → (k : ℕ) × (m ≡ n + k) × FaultAt step done s lines k
read_err step done s [] n m e =
    let h = err_none (done s) n m e in (
      0,
      omega (arith, h.1),
      record {
        inside = omega arith;
        state = s;
        before = refl;
        stuck = λ l. absurd (omega arith);
        short = λ l. rw h.0 refl;
      },
    )
read_err step done s (line ∷ lines) n m e =
    err_step (step s line) (λ t. read_lines step done t lines (n + 1)) n m
    ((k : ℕ) × (m ≡ n + k) × FaultAt step done s (line ∷ lines) k)
    (λ none same. (
      0,
      omega arith,
      record {
        inside = omega arith;
        state = s;
        before = refl;
        stuck = λ l. rw none refl;
        short = λ l. absurd (omega arith);
      },
    ))
    (λ t is err. let h = read_err step done t lines (n + 1) m err in (
      suc h.0,
      omega (arith, h.1),
      record {
        inside = omega (arith, h.2.inside);
        state = h.2.state;
        before = rw is h.2.before;
        stuck = λ l. rw is (h.2.stuck (omega (arith, l)));
        short = λ l. rw is (h.2.short (omega (arith, l)));
      },
    ))
    e

none_bind : {S V : Type 0} (o : Option S) (g : S → Option V) (v : V) → o ≡ None → (o >>= g) ≡ Some v → ⊥
none_bind o g v none some = let h : None ≡ Some v = sym (rw none refl) ∙ some in cc

some_none : {V : Type 0} (o : Option V) (v : V) → o ≡ None → o ≡ Some v → ⊥
some_none o v none some = cc

-- a text's front begins a whole text
begins_front : {V : Type 0} (Stands : List (List ℕ) → V → Type 0) (lines : List (List ℕ)) (n : ℕ)
    (b : Begins Stands lines) → Begins Stands (take n lines)
begins_front Stands lines n b =
    let same : lines ++ b.more ≡ take n lines ++ (drop n lines ++ b.more) =
    sym (rw (← append_assoc, take-append-drop n lines) refl) in
    let P : List (List ℕ) → Type 0 = λ ls. Stands ls b.value in
    record { more = drop n lines ++ b.more; value = b.value; stands = subst P same b.stands }

stands_begins : {V : Type 0} (Stands : List (List ℕ) → V → Type 0) (lines : List (List ℕ)) (v : V) → Stands lines v
    → Begins Stands lines
stands_begins Stands lines v s =
    let P : List (List ℕ) → Type 0 = λ ls. Stands ls v in
    record { more = []; value = v; stands = subst P (sym (append-nil lines)) s }

-- a whole text has no fault
pub stands_no_fault : {V : Type 0} (Stands : List (List ℕ) → V → Type 0) (lines : List (List ℕ)) (v : V) (n : ℕ)
    → Stands lines v → IsFirstFault Stands lines n → ⊥
stands_no_fault Stands lines v n s f = elim (cases_lt (length lines) n) [
  | inl short ↦ f.end short v s
  | inr inside ↦ f.at inside (begins_front Stands lines n (stands_begins Stands lines v s))
]

no_earlier : {V : Type 0} (Stands : List (List ℕ) → V → Type 0) (lines : List (List ℕ)) (n m : ℕ)
    → IsFirstFault Stands lines n → IsFirstFault Stands lines m → n < m → ⊥
no_earlier Stands lines n m f g less =
    let inside : n ≤ length lines = omega (arith, g.counted.1) in
    let front : take n (take (m - 1) lines) ≡ take n lines = take-take n (m - 1) lines (omega arith) in
    let P : List (List ℕ) → Type 0 = λ ls. Begins Stands ls in
    f.at inside (subst P front (begins_front Stands (take (m - 1) lines) n g.before))

-- one line is the first faulty one
pub one_fault : {V : Type 0} (Stands : List (List ℕ) → V → Type 0) (lines : List (List ℕ)) (n m : ℕ)
    → IsFirstFault Stands lines n → IsFirstFault Stands lines m → n ≡ m
one_fault Stands lines n m f g = elim (cases_order n m) [
  | inl same ↦ same
  | inr other ↦ elim other [
    | inl less ↦ absurd (no_earlier Stands lines n m f g less)
    | inr more ↦
        absurd (no_earlier Stands lines m n g f more)
  ]
]

-- the fault of a reading is the first one, where the reading agrees with the relation and each state that is
-- reached can go on to a whole text
pub first_fault : {S V : Type 0} (step : S → List ℕ → Option S) (done : S → Option V) (s : S)
    (Stands : List (List ℕ) → V → Type 0) (lines : List (List ℕ)) (k : ℕ)
    → ((ls : List (List ℕ)) (v : V) → Stands ls v → finished step done s ls ≡ Some v)
    → ((ls : List (List ℕ)) (v : V) → finished step done s ls ≡ Some v → Stands ls v)
    → ((ls : List (List ℕ)) (t : S) → reach step s ls ≡ Some t
    → (more : List (List ℕ)) × (v : V) × (finished step done t more ≡ Some v))
    → FaultAt step done s lines k → IsFirstFault Stands lines (suc k)
first_fault step done s Stands lines k complete sound goes_on fault = record {
  counted = (omega arith, omega (arith, fault.inside));
  before =
      let o = goes_on (take k lines) fault.state fault.before in
      let e : finished step done s (take k lines ++ o.0) ≡ Some o.1 =
      rw (reach-append step s (take k lines) o.0, fault.before) o.2 in
      let same : suc k - 1 ≡ k = omega arith in
      rw same (record { more = o.0; value = o.1; stands = sound (take k lines ++ o.0) o.1 e });
  at = λ inside begins.
      let e = complete (take (suc k) lines ++ begins.more) begins.value begins.stands in
      none_bind (reach step s (take (suc k) lines)) (λ t. finished step done t begins.more) begins.value
      (fault.stuck (omega arith))
      (sym (bind_bind (reach step s (take (suc k) lines)) (λ t. reach step t begins.more) done)
      ∙ (rw (← reach-append step s (take (suc k) lines) begins.more) e));
  end = λ past v stands. some_none (finished step done s lines) v (fault.short (omega arith)) (complete lines v stands);
}
