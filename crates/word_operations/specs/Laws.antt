-- What the tables of results and of bits are good for.
use Rattle.std.specs.Prelude.{◌≡◌, ℕ, ◌^◌, ◌<◌, ◌≤◌, Bool, true, List, [], ◌∷◌}
use Rattle.std.specs.List.{AllByRecursion}
use Rattle.word_operations.specs.declared.kind.Kind.{Kind}
use Rattle.word_operations.specs.Operations.{takes_bit}

-- the word is 0 or 1, where it is told to be a bit
abbrev pub IsBitIf : Bool → ℕ → Type 0
IsBitIf told word = told ≡ true → word ≤ 1

-- as many words as are told of, and each is 0 or 1 that is told to be a bit
abbrev pub AreBits : List Bool → List ℕ → Type 0
AreBits [] [] = Unit {0}
AreBits [] (word ∷ words) = ⊥
AreBits (told ∷ more) [] = ⊥
AreBits (told ∷ more) (word ∷ words) = IsBitIf told word × AreBits more words

-- each is a word
abbrev pub AreWords : List ℕ → Type 0
AreWords words = AllByRecursion (λ n. n < 2 ^ 64) words

-- three words, bits where they are told to be; and the first is one where the kind takes a carry, a borrow or a
-- condition
pub record AreOperands (kind : Kind) (p q r : Bool) (a b c : ℕ) : Type 0 where
  pub words : AreWords (a ∷ b ∷ c ∷ [])
  pub first : IsBitIf p a
  pub second : IsBitIf q b
  pub third : IsBitIf r c
  pub taken : IsBitIf (takes_bit kind) a
