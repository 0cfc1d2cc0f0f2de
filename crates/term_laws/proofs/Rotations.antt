-- The order of a sum and of a carry is free.
use Rattle.std.proofs.Common.{◌≡◌, ℕ, ◌<◌, ◌≤◌, List, [], ◌∷◌, length, Bool, cond, sym, ap, ◌∙◌}
use Rattle.std.proofs.Common.{⊎_elim, arith}
use Rattle.std.proofs.lemmas.Bool.{cases_lt, le-ltb, lt-ltb}
use Rattle.terms.specs.declared.lists.Term.{Term}
use Rattle.terms.specs.declared.nodes.Node.{Node}
use Rattle.terms.specs.declared.nodes.Form.TheVariants as forms
use Rattle.terms.specs.Rules.{by_number, carry_of, insert_number, normal_of}
use Rattle.term_laws.proofs.SumsAlike.{lin_alike}

-- ---- sums

pub sum_rotated : (t : List Node) (c a b : ℕ) → c < length t → a < length t → b < length t
    → normal_of t (forms.Lin 0 (record { times = 1; node = a } ∷ record { times = 1; node = b }
    ∷ record { times = 1; node = c } ∷ []))
    ≡ normal_of t (forms.Lin 0 (record { times = 1; node = c } ∷ record { times = 1; node = a }
    ∷ record { times = 1; node = b } ∷ []))
unfolding normal_of
sum_rotated t c a b i j k =
    let one : ℕ → Term = λ n. record { times = 1; node = n } in
    lin_alike t 0 (one a ∷ one b ∷ one c ∷ []) (one c ∷ one a ∷ one b ∷ []) (λ opens. omega arith)
    (λ opens n. omega arith)

-- ---- numbers in order

put_behind : (m n : ℕ) (ns : List ℕ) → n < m → insert_number m (n ∷ ns) ≡ n ∷ insert_number m ns
put_behind m n ns h = ap (λ (b : Bool). cond b (n ∷ insert_number m ns) (m ∷ n ∷ ns)) (lt-ltb n m h)

put_before : (m n : ℕ) (ns : List ℕ) → m ≤ n → insert_number m (n ∷ ns) ≡ m ∷ n ∷ ns
put_before m n ns h = ap (λ (b : Bool). cond b (n ∷ insert_number m ns) (m ∷ n ∷ ns)) (le-ltb n m h)

-- of two numbers that are not behind the first one, either may be put first
put_two : (m n x : ℕ) (ns : List ℕ) → m ≤ x → n ≤ x → insert_number m (n ∷ x ∷ ns) ≡ insert_number n (m ∷ x ∷ ns)
put_two m n x ns h j = ⊎_elim
    (λ (p : n < m). put_behind m n (x ∷ ns) p ∙ ap (λ (l : List ℕ). n ∷ l) (put_before m x ns h)
    ∙ sym (put_before n m (x ∷ ns) (omega arith)))
    (λ (p : m ≤ n). ⊎_elim
    (λ (q : m < n). put_before m n (x ∷ ns) p ∙ sym (ap (λ (l : List ℕ). m ∷ l) (put_before n x ns j))
    ∙ sym (put_behind n m (x ∷ ns) q))
    (λ (q : n ≤ m). let same : m ≡ n = omega arith in
    (λ i. insert_number (same i) (sym same i ∷ x ∷ ns)))
    (cases_lt m n))
    (cases_lt n m)

put_one : (m n : ℕ) → insert_number m (n ∷ []) ≡ insert_number n (m ∷ [])
put_one m n = ⊎_elim
    (λ (p : n < m). put_behind m n [] p ∙ sym (put_before n m [] (omega arith)))
    (λ (p : m ≤ n). ⊎_elim
    (λ (q : m < n). put_before m n [] p ∙ sym (put_behind n m [] q))
    (λ (q : n ≤ m). let same : m ≡ n = omega arith in (λ i. insert_number (same i) (sym same i ∷ [])))
    (cases_lt m n))
    (cases_lt n m)

-- two numbers are put into a list in either order
put_swapped : (m n : ℕ) (ns : List ℕ)
    → insert_number m (insert_number n ns) ≡ insert_number n (insert_number m ns)
put_swapped m n [] = put_one m n
put_swapped m n (x ∷ ns) = ⊎_elim
    (λ (p : x < m). ⊎_elim
    (λ (q : x < n). ap (insert_number m) (put_behind n x ns q) ∙ put_behind m x (insert_number n ns) p
    ∙ ap (λ (l : List ℕ). x ∷ l) (put_swapped m n ns)
    ∙ sym (ap (insert_number n) (put_behind m x ns p) ∙ put_behind n x (insert_number m ns) q))
    (λ (q : n ≤ x). between n m x ns q p)
    (cases_lt x n))
    (λ (p : m ≤ x). ⊎_elim
    (λ (q : x < n). sym (between m n x ns p q))
    (λ (q : n ≤ x). ap (insert_number m) (put_before n x ns q) ∙ put_two m n x ns p q
    ∙ sym (ap (insert_number n) (put_before m x ns p)))
    (cases_lt x n))
    (cases_lt x m) where
      -- the first number of the list lies between the two
      between : (a b x : ℕ) (ns : List ℕ) → a ≤ x → x < b
          → insert_number b (insert_number a (x ∷ ns)) ≡ insert_number a (insert_number b (x ∷ ns))
      between a b x ns h j =
          ap (insert_number b) (put_before a x ns h) ∙ put_behind b a (x ∷ ns) (omega arith)
          ∙ ap (λ (l : List ℕ). a ∷ l) (put_behind b x ns j)
          ∙ sym (ap (insert_number a) (put_behind b x ns j) ∙ put_before a x (insert_number b ns) h)

-- the first of three numbers may be put last
pub number_rotated : (c a b : ℕ) → by_number (a ∷ b ∷ c ∷ []) ≡ by_number (c ∷ a ∷ b ∷ [])
unfolding by_number
number_rotated c a b = put_swapped c b (a ∷ []) ∙ ap (insert_number b) (put_swapped c a [])

pub carry_rotated : (t : List Node) (c a b : ℕ)
    → normal_of t (forms.Carry (a ∷ b ∷ c ∷ [])) ≡ normal_of t (forms.Carry (c ∷ a ∷ b ∷ []))
unfolding normal_of
carry_rotated t c a b = ap (carry_of t) (number_rotated c a b)
