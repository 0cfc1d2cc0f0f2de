-- A load of a `MemoryShelf` that fails by itself: the file is missing.
use Rattle.std.proofs.Common.{rules, inr}
use Rattle.io_ports.proofs.memory.MemoryShelfShelf.load.Goals as goal

-- a call that is not to fail and finds no file: the file is missing
pub returns-in_default-clause-failed : goal.returns-in_default-clause-failed
returns-in_default-clause-failed c = λ failed. inr (search rules)
