-- The lines that a user writes, as laws of the definitions in `Lines.antt`. The words are this project's own.
use Rattle.std.specs.Prelude.{◌≡◌, ℕ, Bool, true, not, ◌==◌, List, [], ◌∷◌, codes, Some, None, option_map}
use Rattle.base.specs.Options.{guard}
use Rattle.command_line.specs.Inputs.{inputs_of}
use Rattle.command_line.specs.Lanes.{are_file_names, lanes_of, lanes_command}
use Rattle.command_line.specs.Lines.{command_of}
use Rattle.command_line.specs.declared.command.Command.TheVariants.{Search, Eval, Emulate, Check, Show, Replay}

-- the word is taken for no option: it does not begin with `-`, or is `-` alone
abbrev pub is_plain : List ℕ → Bool
is_plain [] = true
is_plain (c ∷ []) = true
is_plain (c ∷ d ∷ cs) = not (c == 45)

-- `search PROGRAM ASM`
abbrev pub Searches : Type 0
Searches = (program asm : List ℕ) → is_plain program ≡ true → is_plain asm ≡ true
    → command_of (codes "search" ∷ program ∷ asm ∷ []) ≡ guard (are_file_names program asm) (Search program asm)

-- `search PROGRAM ASM JOURNAL --seeds LIST --workers N --turns N`
abbrev pub SearchesLanes : Type 0
SearchesLanes = (program asm journal seeds workers turns : List ℕ) → is_plain program ≡ true → is_plain asm ≡ true
    → is_plain journal ≡ true → is_plain seeds ≡ true → is_plain workers ≡ true → is_plain turns ≡ true
    → command_of (codes "search" ∷ program ∷ asm ∷ journal ∷ codes "--seeds" ∷ seeds ∷ codes "--workers" ∷ workers
    ∷ codes "--turns" ∷ turns ∷ [])
    ≡ lanes_command program asm journal (lanes_of seeds workers turns)

-- `search PROGRAM ASM JOURNAL`, which is no command
abbrev pub RefusesNoOptions : Type 0
RefusesNoOptions = (program asm journal : List ℕ) → is_plain program ≡ true → is_plain asm ≡ true
    → is_plain journal ≡ true → command_of (codes "search" ∷ program ∷ asm ∷ journal ∷ []) ≡ None

-- `eval PROGRAM`
abbrev pub Evaluates : Type 0
Evaluates = (program : List ℕ) → is_plain program ≡ true
    → command_of (codes "eval" ∷ program ∷ []) ≡ Some (Eval program [])

-- `eval PROGRAM --in LIST`
abbrev pub EvaluatesInputs : Type 0
EvaluatesInputs = (program list : List ℕ) → is_plain program ≡ true → is_plain list ≡ true
    → command_of (codes "eval" ∷ program ∷ codes "--in" ∷ list ∷ []) ≡ option_map (Eval program) (inputs_of list)

-- `eval --in LIST PROGRAM`, which is the same
abbrev pub EvaluatesInputsFirst : Type 0
EvaluatesInputsFirst = (program list : List ℕ) → is_plain program ≡ true → is_plain list ≡ true
    → command_of (codes "eval" ∷ codes "--in" ∷ list ∷ program ∷ []) ≡ option_map (Eval program) (inputs_of list)

-- `eval PROGRAM --in LIST --in OTHER`, which is no command
abbrev pub RefusesTwoLists : Type 0
RefusesTwoLists = (program list other : List ℕ) → is_plain program ≡ true → is_plain list ≡ true
    → is_plain other ≡ true
    → command_of (codes "eval" ∷ program ∷ codes "--in" ∷ list ∷ codes "--in" ∷ other ∷ []) ≡ None

-- `search -- PROGRAM ASM`, where each name may begin with `-`
abbrev pub SearchesAfterDashes : Type 0
SearchesAfterDashes = (program asm : List ℕ)
    → command_of (codes "search" ∷ codes "--" ∷ program ∷ asm ∷ [])
    ≡ guard (are_file_names program asm) (Search program asm)

-- `emulate PROGRAM ASM`
abbrev pub Emulates : Type 0
Emulates = (program asm : List ℕ) → is_plain program ≡ true → is_plain asm ≡ true
    → command_of (codes "emulate" ∷ program ∷ asm ∷ []) ≡ Some (Emulate program asm [])

-- `emulate PROGRAM ASM --in LIST`
abbrev pub EmulatesInputs : Type 0
EmulatesInputs = (program asm list : List ℕ) → is_plain program ≡ true → is_plain asm ≡ true → is_plain list ≡ true
    → command_of (codes "emulate" ∷ program ∷ asm ∷ codes "--in" ∷ list ∷ [])
    ≡ option_map (Emulate program asm) (inputs_of list)

-- `check PROGRAM ASM`
abbrev pub Checks : Type 0
Checks = (program asm : List ℕ) → is_plain program ≡ true → is_plain asm ≡ true
    → command_of (codes "check" ∷ program ∷ asm ∷ []) ≡ Some (Check program asm)

-- `show ASM`
abbrev pub Shows : Type 0
Shows = (asm : List ℕ) → is_plain asm ≡ true → command_of (codes "show" ∷ asm ∷ []) ≡ Some (Show asm)

-- `replay PROGRAM JOURNAL ASM`
abbrev pub Replays : Type 0
Replays = (program journal asm : List ℕ) → is_plain program ≡ true → is_plain journal ≡ true → is_plain asm ≡ true
    → command_of (codes "replay" ∷ program ∷ journal ∷ asm ∷ []) ≡ Some (Replay program journal asm)
