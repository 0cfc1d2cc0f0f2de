-- What a load takes from a reader, and what a failed write leaves in a writer, where the bytes that these have are
-- told. The words are this project's own, over those of std.
use Rattle.std.specs.Prelude.{◌≡◌, ◌≢◌, ℕ, ◌+◌, ◌≤◌, ◌<◌, List, [], ◌++◌, length, take, Vec, Ok, Err}
use Rattle.std.specs.declared.option.Option.{Option}
use Rattle.std.specs.declared.result.Result.{Result}
use Rattle.std.specs.Io.KnownBytes.{Consumes, Appends, Keeps, IsAtEnd}
use Rattle.io_ports.specs.declared.fault.Fault.{Fault}
use Rattle.io_ports.specs.declared.fault.Fault.TheVariants.{Failed, TooLong, Memory}

-- what each answer of a load says of the bytes that it took and of what is left: they are the answer, and nothing
-- is left; no more than allowed was read when a read failed; the last byte read is the first one too many; there
-- were bytes, no more than allowed, for which there was no memory
abbrev pub Answers : {A : Type 0} → ℕ → List ℕ → Option (List ℕ) → Result (Vec ℕ A) Fault → Type 0
Answers limit taken left (Ok bytes) = (bytes.items ≡ taken) × (length taken ≤ limit) × IsAtEnd left
Answers limit taken left (Err Failed) = length taken ≤ limit
Answers limit taken left (Err TooLong) = length taken ≡ limit + 1
Answers limit taken left (Err Memory) = (0 < length taken) × (length taken ≤ limit)

-- a load with this limit took some first bytes of a reader, and answered so
abbrev pub Loads : {A : Type 0} → ℕ → Option (List ℕ) → Option (List ℕ) → Result (Vec ℕ A) Fault → Type 0
Loads limit before after result = (taken : List ℕ) × Consumes before after taken × Answers limit taken after result

-- a writer got some first ones of these bytes, maybe none, and some are left
abbrev pub AppendsPart : Option (List ℕ) → Option (List ℕ) → List ℕ → Type 0
AppendsPart before after bytes = (sent : List ℕ) × (left : List ℕ) × (bytes ≡ sent ++ left) × (left ≢ [])
    × Appends before after sent

-- a write that took some first bytes of these, at least one, and appended them; one that failed left the writer as it
-- was
abbrev pub Writes : Option (List ℕ) → Option (List ℕ) → List ℕ → Result ℕ Fault → Type 0
Writes before after bytes (Ok n) = (0 < n) × (n ≤ length bytes) × Appends before after (take n bytes)
Writes before after bytes (Err fault) = Keeps before after
