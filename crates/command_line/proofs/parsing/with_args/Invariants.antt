-- The command so far has the names before this place.
use Rattle.std.proofs.Common.{◌≡◌, map, drop}
use Rattle.clap.specs.Simple.{app_of}
use Rattle.command_line.specs.Table.{with_args}
use Rattle.command_line.proofs.parsing.with_args.Given as goal

abbrev pub invariant-loop-name : goal.invariant-loop-name
invariant-loop-name l = with_args l.kind (app_of l.command) (map (λ name. name.now) (drop l.name-index l.names))
    ≡ with_args l.kind (app_of l.initial.command) (map (λ name. name.now) l.names)
