-- Steps that may give nothing.
use Rattle.std.specs.Prelude.{Bool, List, [], ◌∷◌, Option, Some, None, if◌then◌else◌, option_and_then}

infixl 10 ◌>>=◌
-- the second step from what the first one gives
abbrev pub ◌>>=◌ : {A B : Type 0} → Option A → (A → Option B) → Option B
o >>= f = option_and_then f o

-- what follows from the first step where it gives something, else what follows without it
abbrev pub pick : {A B : Type 0} → Option A → (A → B) → B → B
pick None f d = d
pick (Some x) f d = f x

-- the value where the test holds
abbrev pub guard : {A : Type 0} → Bool → A → Option A
guard b x = if b then Some x else None

-- the one item of a list that has one
abbrev pub only : {A : Type 0} → List A → Option A
only [] = None
only (x ∷ []) = Some x
only (x ∷ y ∷ xs) = None
