-- A JSON value that was read has at most as many items in an array as its text has bytes.
use Rattle.std.proofs.Common.{◌≡◌, ℕ, zero, suc, ◌+◌, ◌<◌, ◌≤◌, max, List, [], ◌∷◌, length, Option, Some, None}
use Rattle.std.proofs.Common.{option_map, option_and_then, Ordering, Less, Equal, Greater, refl, subst, arith}
use Rattle.std.specs.Prelude.{⊤}
use Rattle.std.specs.Ordering.{match_ordering}
use Rattle.json.specs.Token.{Token}
use Rattle.json.specs.Lex.{tokens}
use Rattle.json.specs.Json as json
use Rattle.json.specs.Json.{Json, Parse, parse_map, after_end_array, read_key, items_step, members_step, value_with}
use Rattle.json.proofs.Grammar.{after_end_array-shorter, read_key-shorter}
use Rattle.serde_json.specs.Data.{Data, number, array, object, Items, item, Members, no_members, member, put}
use Rattle.serde_json.specs.Read.{number_of, of_json, of_items, of_members, max_depth, read}
use Rattle.fiat_json.specs.Widths.{count, widest, widest_item, widest_member}
use Rattle.fiat_json.proofs.TokenCount.{length-tokens}

-- ---- the tokens of a value

abbrev count_of : json.Items → ℕ
count_of json.no_items = 0
count_of (json.item j js) = suc (count_of js)

-- the greatest number of items of an array in a value of the grammar
abbrev mutual
  width : Json → ℕ
  width json.null = 0
  width (json.boolean b) = 0
  width (json.number s) = 0
  width (json.string s) = 0
  width (json.array js) = max (count_of js) (width_of_items js)
  width (json.object ms) = width_of_members ms

  width_of_items : json.Items → ℕ
  width_of_items json.no_items = 0
  width_of_items (json.item j js) = max (width j) (width_of_items js)

  width_of_members : json.Members → ℕ
  width_of_members json.no_members = 0
  width_of_members (json.member k j ms) = max (width j) (width_of_members ms)

abbrev items_width : json.Items → ℕ
items_width js = max (count_of js) (width_of_items js)

-- what was read of n tokens is less wide than the tokens that it took
abbrev Fits : {A : Type 0} → (A → ℕ) → ℕ → Option (A × List Token) → Type 0
Fits f n None = ⊤
Fits f n (Some p) = f p.0 + length p.1 < n

abbrev Takes : {A : Type 0} → (A → ℕ) → Parse A → Type 0
Takes f p = (ts : List Token) → Fits f (length ts) (p ts)

mapped : {A B : Type 0} (f : A → ℕ) (g : B → ℕ) (n m : ℕ) (h : A → B)
    → ((a : A) (rest : ℕ) → f a + rest < n → g (h a) + rest < m) → (o : Option (A × List Token)) → Fits f n o
    → Fits g m (parse_map h o)
mapped f g n m h k None x = tt
mapped f g n m h k (Some p) x = k p.0 (length p.1) x

and_more : {B : Type 0} (g : B → ℕ) (n m : ℕ) (h : Json → B → B)
    → ((j : Json) (b : B) (between rest : ℕ) → width j + between < n → g b + rest < between → g (h j b) + rest < m)
    → (more : Parse B) → Takes g more → (o : Option (Json × List Token)) → Fits width n o
    → Fits g m (option_and_then (λ q. parse_map (h q.0) (more q.1)) o)
and_more g n m h k more takes None x = tt
and_more g n m h k more takes (Some q) x =
    mapped g g (length q.1) m (h q.0) (λ b rest y. k q.0 b (length q.1) rest x y) (more q.1) (takes q.1)

module _ (p : Parse Json) (takes : Takes width p) where
  item_turn : (more : Parse json.Items) → Takes items_width more → (ts : List Token) (o : Option (List Token))
      → after_end_array ts ≡ o → Fits items_width (length ts) (items_step p more ts o)
  item_turn more again ts (Some r) e = omega (arith, after_end_array-shorter ts r e)
  item_turn more again ts None e =
      and_more items_width (length ts) (length ts) json.item (λ j b between rest x y. omega arith) more again (p ts)
      (takes ts)

  Takes-items : (n : ℕ) → Takes items_width (json.items p n)
  unfolding json.items
  Takes-items zero ts = tt
  Takes-items (suc n) ts = item_turn (json.items p n) (Takes-items n) ts (after_end_array ts) refl

  member_turn : (more : Parse json.Members) → Takes width_of_members more → (ts : List Token)
      (o : Option (Option (List ℕ) × List Token)) → read_key ts ≡ o
      → Fits width_of_members (length ts) (option_and_then (λ q. members_step p more q.0 q.1) o)
  member_turn more again ts None e = tt
  member_turn more again ts (Some (None, s)) e = omega (arith, read_key-shorter ts None s e)
  member_turn more again ts (Some (Some k, s)) e =
      let shorter = read_key-shorter ts (Some k) s e in
      and_more width_of_members (length s) (length ts) (json.member k) (λ j b between rest x y. omega arith) more again
      (p s) (takes s)

  Takes-members : (n : ℕ) → Takes width_of_members (json.members p n)
  unfolding json.members
  Takes-members zero ts = tt
  Takes-members (suc n) ts = member_turn (json.members p n) (Takes-members n) ts (read_key ts) refl

one_level : (a : Parse json.Items) (o : Parse json.Members) → Takes items_width a → Takes width_of_members o
    → Takes width (value_with a o)
one_level a o p q [] = tt
one_level a o p q (Token.begin_object ∷ ts) =
    mapped width_of_members width (length ts) (suc (length ts)) json.object (λ ms rest x. omega arith) (o ts) (q ts)
one_level a o p q (Token.end_object ∷ ts) = tt
one_level a o p q (Token.begin_array ∷ ts) =
    mapped items_width width (length ts) (suc (length ts)) json.array (λ js rest x. omega arith) (a ts) (p ts)
one_level a o p q (Token.end_array ∷ ts) = tt
one_level a o p q (Token.key s ∷ ts) = tt
one_level a o p q (Token.string s ∷ ts) = omega arith
one_level a o p q (Token.number s ∷ ts) = omega arith
one_level a o p q (Token.boolean b ∷ ts) = omega arith
one_level a o p q (Token.null ∷ ts) = omega arith
one_level a o p q (Token.bad ∷ ts) = tt

Takes-value : (depth : ℕ) → Takes width (json.value depth)
unfolding json.value
Takes-value zero = one_level (λ ts. None) (λ ts. None) (λ ts. tt) (λ ts. tt)
Takes-value (suc d) =
    one_level (λ ts. json.items (json.value d) (length ts) ts) (λ ts. json.members (json.value d) (length ts) ts)
    (λ ts. Takes-items (json.value d) (Takes-value d) (length ts) ts)
    (λ ts. Takes-members (json.value d) (Takes-value d) (length ts) ts)

-- ---- the value

abbrev Holds : {A : Type 0} → (A → Type 0) → Option A → Type 0
Holds P None = ⊤
Holds P (Some a) = P a

holds_map : {A B : Type 0} (P : A → Type 0) (Q : B → Type 0) (h : A → B) → ((a : A) → P a → Q (h a)) → (o : Option A)
    → Holds P o → Holds Q (option_map h o)
holds_map P Q h k None x = tt
holds_map P Q h k (Some a) x = k a x

holds_then : {A B : Type 0} (P : A → Type 0) (Q : B → Type 0) (h : A → Option B) → ((a : A) → P a → Holds Q (h a))
    → (o : Option A) → Holds P o → Holds Q (option_and_then h o)
holds_then P Q h k None x = tt
holds_then P Q h k (Some a) x = k a x

anything : {A : Type 0} (o : Option A) → Holds (λ a. ⊤) o
anything None = tt
anything (Some a) = tt

chosen : (o : Ordering) (a b c : Members) (n : ℕ) → widest_member a ≤ n → widest_member b ≤ n → widest_member c ≤ n
    → widest_member (match_ordering o a b c) ≤ n
chosen Less a b c n p q r = p
chosen Equal a b c n p q r = q
chosen Greater a b c n p q r = r

widest-put : (k : List ℕ) (d : Data) (ms : Members) (n : ℕ) → widest d ≤ n → widest_member ms ≤ n
    → widest_member (put k d ms) ≤ n
widest-put k d no_members n p q = omega arith
widest-put k d (member l e ms) n p q =
    chosen _ (member k d (member l e ms)) (member l d ms) (member l e (put k d ms)) n (omega arith) (omega arith)
    (omega (arith, widest-put k d ms n p (omega arith)))

-- as many items, and no wider ones
abbrev AreIn : ℕ → ℕ → Items → Type 0
AreIn c n ds = (count ds ≤ c) × (widest_item ds ≤ n)

abbrev MembersIn : ℕ → Members → Type 0
MembersIn n ms = widest_member ms ≤ n

abbrev FitsIn : ℕ → Data → Type 0
FitsIn n d = widest d ≤ n

mutual
  widest-of_json : (j : Json) (n : ℕ) → width j ≤ n → Holds (FitsIn n) (of_json j)
  widest-of_json json.null n h = omega arith
  widest-of_json (json.boolean b) n h = omega arith
  widest-of_json (json.number s) n h =
      holds_map (λ a. ⊤) (FitsIn n) number (λ a x. omega arith) (number_of s) (anything (number_of s))
  widest-of_json (json.string s) n h = omega arith
  widest-of_json (json.array js) n h =
      holds_map (AreIn n n) (FitsIn n) array (λ ds x. omega arith) _
      (widest-of_items js n n (omega arith) (omega arith))
  widest-of_json (json.object ms) n h =
      holds_map (MembersIn n) (FitsIn n) object (λ ms x. x) _ (widest-of_members ms no_members n h (omega arith))

  widest-of_items : (js : json.Items) (c n : ℕ) → count_of js ≤ c → width_of_items js ≤ n
      → Holds (AreIn c n) (of_items js)
  widest-of_items json.no_items c n h k = (omega arith, omega arith)
  widest-of_items (json.item j js) zero n h k = let never : ⊥ = omega arith in absurd never
  widest-of_items (json.item j js) (suc c) n h k =
      holds_then (FitsIn n) (AreIn (suc c) n) _
      (λ d x.
      holds_map (AreIn c n) (AreIn (suc c) n) (item d) (λ ds y. (omega arith, omega arith)) _
      (widest-of_items js c n (omega arith) (omega arith)))
      _ (widest-of_json j n (omega arith))

  widest-of_members : (ms : json.Members) (found : Members) (n : ℕ) → width_of_members ms ≤ n
      → widest_member found ≤ n → Holds (MembersIn n) (of_members ms found)
  widest-of_members json.no_members found n h k = k
  widest-of_members (json.member name j ms) found n h k =
      holds_then (FitsIn n) (MembersIn n) _
      (λ d x. widest-of_members ms (put name d found) n (omega arith) (widest-put name d found n x k)) _
      (widest-of_json j n (omega arith))

last_fits : (o : Option (Json × List Token)) (n : ℕ) → Fits width (suc n) o
    → Holds (λ j. width j ≤ n) (option_and_then (λ p. json.if_last p.0 p.1) o)
last_fits None n h = tt
last_fits (Some (j, [])) n h = omega arith
last_fits (Some (j, t ∷ r)) n h = tt

weaker : {A : Type 0} (f : A → ℕ) (n m : ℕ) → n ≤ m → (o : Option (A × List Token)) → Fits f n o → Fits f m o
weaker f n m le None h = tt
weaker f n m le (Some p) h = omega arith

pub widest-read : (text : List ℕ) (d : Data) → read text ≡ Some d → widest d ≤ length text
widest-read text d e =
    let le : length (tokens text) ≤ suc (length text) = omega (arith, length-tokens text) in
    subst (Holds (FitsIn (length text))) e
    (holds_then (λ j. width j ≤ length text) (FitsIn (length text)) of_json
    (λ j x. widest-of_json j (length text) x) _
    (last_fits _ (length text)
    (weaker width (length (tokens text)) (suc (length text)) le _ (Takes-value max_depth (tokens text)))))
