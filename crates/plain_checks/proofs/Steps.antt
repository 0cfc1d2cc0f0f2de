-- Lines that share the rest of a step: what they make is in the table already, and goes into `rax`.
use Rattle.std.proofs.Common.{◌≡◌, ℕ, ◌<◌, false, List, ◌∷◌, length, Option, Some, None, refl, sym, ap, ◌∙◌}
use Rattle.std.proofs.Common.{subst, arith}
use Rattle.x86_instr.specs.declared.operand.Reg.{Reg}
use Rattle.x86_instr.specs.declared.operand.Reg.TheVariants.{Rax}
use Rattle.x86_instr.specs.declared.line.Line.{Line}
use Rattle.x86_instr.specs.Listings.{is_ret}
use Rattle.terms.specs.declared.nodes.Node.{Node}
use Rattle.terms.specs.declared.nodes.Form.{Form}
use Rattle.terms.specs.declared.nodes.Form.TheVariants as forms
use Rattle.terms.specs.declared.nodes.Built.TheVariants.{Make}
use Rattle.terms.specs.Tables.{Prefix}
use Rattle.terms.specs.Rules.{const_node, normal_of}
use Rattle.term_store.specs.Interning.{Interned, made}
use Rattle.term_store.proofs.Interned.{made_interned}
use Rattle.term_store.proofs.Made.{interned_place, made_prefix}
use Rattle.term_store.proofs.Places.{IsPlace}
use Rattle.term_store.proofs.Prefixes.{prefix_length, prefix_trans}
use Rattle.symbolic_state.specs.Symbols.{Symbols, with_flags, with_node, write}
use Rattle.symbolic_values.specs.Steps.{arithmetic, chained, goes, logic, result_and_zero, result_only, step_of}
use Rattle.term_laws.specs.Numbers.{Has}
use Rattle.term_laws.proofs.Entries.{IsBase}
use Rattle.plain_checks.proofs.Leading.{Leads, leads_on}
use Rattle.term_laws.proofs.Stable.{has_later, made_alike}
use Rattle.plain_checks.proofs.Work.{Work, state}

-- ---- what is made

-- a form of the source's table, made again
pub has_number : {t u : List Node} {form : Form} {n : ℕ} → IsBase t → Prefix t u → Has t form n
    → made u form ≡ record { table = u; number = n }
has_number base p h = (has_later base.is_table p h).is

-- and one of which the rules make the same
pub alike_number : {t u : List Node} {form : Form} {n : ℕ} → IsBase t → Prefix t u → Has t form n → (other : Form)
    → normal_of u other ≡ normal_of u form → made u other ≡ record { table = u; number = n }
alike_number {t} {u} {form} {n} base p h other e = made_alike u other form e ∙ has_number base p h

-- a node that is made has its place in the table
pub made_place : (t : List Node) (form : Form) (node : Node) → normal_of t form ≡ Make node
    → IsPlace (made t form).table node (made t form).number
made_place t form node e =
    subst (λ (o : Interned). IsPlace o.table node o.number) (sym (made_interned t form node e)) (interned_place t node)

pub const_place : (t : List Node) (word : ℕ)
    → IsPlace (made t (forms.Const word)).table (const_node word) (made t (forms.Const word)).number
unfolding normal_of
const_place t word = made_place t (forms.Const word) (const_node word) refl

-- a number of a table is one of a longer table
pub later : {t u : List Node} (n : ℕ) → Prefix t u → n < length t → n < length u
later n p h = let longer = prefix_length p in omega arith

-- ---- a result that changes no flag

pub result_is : (dst : Reg) (f : Form) (t : List Node) (y : Symbols) (r : ℕ)
    → made t f ≡ record { table = t; number = r }
    → result_only dst f t y ≡ goes t (with_node dst r y)
unfolding result_only
result_is dst f t y r e = ap (λ (o : Interned). goes o.table (with_node dst o.number y)) e

pub leads_result : {line : Line} {rest : List Line} {t : List Node} {Q : List Node → Symbols → Type 0}
    (y : Symbols) (w : Work) (f : Form) (r : ℕ) → is_ret line.instr ≡ false
    → step_of line.instr t (state y w) ≡ result_only Rax f t (state y (record w { touch = None }))
    → made t f ≡ record { table = t; number = r }
    → Leads rest t (state y (record w { rax = r; touch = None })) Q
    → Leads (line ∷ rest) t (state y w) Q
leads_result {line} {rest} {t} {Q} y w f r on step e l =
    leads_on on (step ∙ result_is Rax f t (state y (record w { touch = None })) r e) l

-- ---- a result, and whether it is 0

zeroed_is : (dst : Reg) (f : Form) (t : List Node) (y : Symbols) (r : ℕ) → made t f ≡ record { table = t; number = r }
    → result_and_zero None dst f t y
    ≡ goes (made t (forms.Zero r)).table (with_flags None None (Some (made t (forms.Zero r)).number)
    (with_node dst r y))
unfolding result_and_zero
zeroed_is dst f t y r e = ap (λ (o : Interned). let z = made o.table (forms.Zero o.number) in
    goes z.table (with_flags None None (Some z.number) (with_node dst o.number y))) e

pub leads_zeroed : {line : Line} {rest : List Line} {t : List Node} {Q : List Node → Symbols → Type 0}
    (y : Symbols) (w : Work) (f : Form) (r : ℕ) → is_ret line.instr ≡ false
    → step_of line.instr t (state y w) ≡ result_and_zero None Rax f t (state y (record w { touch = None }))
    → made t f ≡ record { table = t; number = r }
    → ((u : List Node) (z : ℕ) → Prefix t u
    → Leads rest u (state y (record w { rax = r; cf = None; of = None; zf = Some z; touch = None })) Q)
    → Leads (line ∷ rest) t (state y w) Q
leads_zeroed {line} {rest} {t} {Q} y w f r on step e l =
    let z = made t (forms.Zero r) in
    leads_on on (step ∙ zeroed_is Rax f t (state y (record w { touch = None })) r e)
    (l z.table z.number (made_prefix t (forms.Zero r)))

-- ---- a result by bits, and the flags

pub logic_is : (dst : Option Reg) (f : Form) (t : List Node) (y : Symbols) (r : ℕ)
    → made t f ≡ record { table = t; number = r }
    → logic dst f t y
    ≡ (let c = made t (forms.Const 0) in let z = made c.table (forms.Zero r) in
    goes z.table (with_flags (Some c.number) (Some c.number) (Some z.number) (write dst r y)))
unfolding logic
logic_is dst f t y r e = ap (λ (o : Interned).
    let c = made o.table (forms.Const 0) in let z = made c.table (forms.Zero o.number) in
    goes z.table (with_flags (Some c.number) (Some c.number) (Some z.number) (write dst o.number y))) e

pub leads_logic : {line : Line} {rest : List Line} {t : List Node} {Q : List Node → Symbols → Type 0}
    (y : Symbols) (w : Work) (f : Form) (r : ℕ) → is_ret line.instr ≡ false
    → step_of line.instr t (state y w) ≡ logic (Some Rax) f t (state y (record w { touch = None }))
    → made t f ≡ record { table = t; number = r }
    → ((u : List Node) (c z : ℕ) → Prefix t u
    → Leads rest u (state y (record w { rax = r; cf = Some c; of = Some c; zf = Some z; touch = None })) Q)
    → Leads (line ∷ rest) t (state y w) Q
leads_logic {line} {rest} {t} {Q} y w f r on step e l =
    let c = made t (forms.Const 0) in
    let z = made c.table (forms.Zero r) in
    leads_on on (step ∙ logic_is (Some Rax) f t (state y (record w { touch = None })) r e)
    (l z.table c.number z.number (prefix_trans (made_prefix t (forms.Const 0)) (made_prefix c.table (forms.Zero r))))

-- ---- a result, its carry, and whether it is 0

arithmetic_is : (dst : Option Reg) (f g : Form) (t : List Node) (y : Symbols) (r k : ℕ)
    → made t f ≡ record { table = t; number = r } → (made t g).number ≡ k
    → arithmetic dst f g t y
    ≡ (let z = made (made t g).table (forms.Zero r) in
    goes z.table (with_flags (Some k) None (Some z.number) (write dst r y)))
unfolding arithmetic
arithmetic_is dst f g t y r k e h =
    ap (λ (o : Interned). let c = made o.table g in let z = made c.table (forms.Zero o.number) in
    goes z.table (with_flags (Some c.number) None (Some z.number) (write dst o.number y))) e
    ∙ ap (λ (n : ℕ). let z = made (made t g).table (forms.Zero r) in
    goes z.table (with_flags (Some n) None (Some z.number) (write dst r y))) h

pub leads_arithmetic : {line : Line} {rest : List Line} {t : List Node}
    {Q : List Node → Symbols → Type 0} (y : Symbols) (w : Work) (f g : Form) (r k : ℕ) → is_ret line.instr ≡ false
    → step_of line.instr t (state y w) ≡ arithmetic (Some Rax) f g t (state y (record w { touch = None }))
    → made t f ≡ record { table = t; number = r } → (made t g).number ≡ k
    → ((u : List Node) (z : ℕ) → Prefix t u
    → Leads rest u (state y (record w { rax = r; cf = Some k; of = None; zf = Some z; touch = None })) Q)
    → Leads (line ∷ rest) t (state y w) Q
leads_arithmetic {line} {rest} {t} {Q} y w f g r k on step e h l =
    let z = made (made t g).table (forms.Zero r) in
    leads_on on (step ∙ arithmetic_is (Some Rax) f g t (state y (record w { touch = None })) r k e h)
    (l z.table z.number (prefix_trans (made_prefix t g) (made_prefix (made t g).table (forms.Zero r))))

-- ---- a sum and its carry, which goes to one flag alone

pub chained_is : (flag : ℕ → Symbols → Symbols) (dst : Reg) (f g : Form) (t : List Node) (y : Symbols) (r k : ℕ)
    → made t f ≡ record { table = t; number = r } → made t g ≡ record { table = t; number = k }
    → chained flag dst f g t y ≡ goes t (flag k (with_node dst r y))
unfolding chained
chained_is flag dst f g t y r k e h =
    ap (λ (o : Interned). let c = made o.table g in goes c.table (flag c.number (with_node dst o.number y))) e
    ∙ ap (λ (o : Interned). goes o.table (flag o.number (with_node dst r y))) h
