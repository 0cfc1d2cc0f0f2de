-- What follows where steps that may give nothing give something.
use Rattle.std.proofs.Common.{◌≡◌, Bool, true, false, refl}
use Rattle.std.specs.Prelude.{Option, Some, None, option_map, option_and_then}
use Rattle.base.specs.Options.{◌>>=◌, pick, guard}

-- both steps gave something
pub bind_some : {A B : Type 0} (f : A → Option B) (o : Option A) (y : B)
    → option_and_then f o ≡ Some y → (x : A) × (o ≡ Some x) × (f x ≡ Some y)
bind_some f None y e = absurd (cc)
bind_some f (Some x) y e = (x, refl, e)

-- the same, by what follows from both
pub bind_then : {A B : Type 0} (o : Option A) (f : A → Option B) (y : B) (P : Type 0)
    → ((x : A) → o ≡ Some x → f x ≡ Some y → P) → (o >>= f) ≡ Some y → P
bind_then None f y P next e = cc
bind_then (Some x) f y P next e = next x refl e

pub map_then : {A B : Type 0} (o : Option A) (f : A → B) (y : B) (P : Type 0)
    → ((x : A) → o ≡ Some x → f x ≡ y → P) → option_map f o ≡ Some y → P
map_then None f y P next e = cc
map_then (Some x) f y P next e = let same : f x ≡ y = cc in next x refl same

pub pick_then : {A B : Type 0} (o : Option A) (f : A → Option B) (d : Option B) (y : B) (P : Type 0)
    → ((x : A) → o ≡ Some x → f x ≡ Some y → P) → (o ≡ None → d ≡ Some y → P) → pick o f d ≡ Some y → P
pick_then None f d y P there gone e = gone refl e
pick_then (Some x) f d y P there gone e = there x refl e

-- a guard that gave something passed
pub guard_some : {A : Type 0} (b : Bool) (x y : A) → guard b x ≡ Some y → (b ≡ true) × (x ≡ y)
guard_some true x y e = let same : x ≡ y = cc in (refl, same)
guard_some false x y e = cc
