-- What `==` says of the parts of programs: whether they are equal.
use Rattle.std.proofs.Common.{◌≡◌, Bool, true, false, not, refl, ap, sym, ◌∙◌}
use Rattle.std.specs.Prelude.{Decides, ◌==◌}
use Rattle.std.proofs.lemmas.Bool.Decides.{Decides-like, Decides-and, Decides-eqb}
use Rattle.std.proofs.lemmas.Slice.Eq.{slice_eq-Decides, bytes_eq-Decides}
use Rattle.word_operations.specs.declared.kind.Kind.{Kind}
use Rattle.word_operations.specs.declared.kind.Kind.TheVariants.{AddCarry, SubBorrow, MulX, CMov, Add, Sub, Mul, And}
use Rattle.word_operations.specs.declared.kind.Kind.TheVariants.{Or, Xor, Not, Copy, Shl, Shr, Shrd}
use Rattle.word_operations.specs.contracts.kind.KindPartialEq.TheImpl as kind_impl
use Rattle.word_program.specs.declared.parameter.Bounds.{Bounds}
use Rattle.word_program.specs.declared.parameter.Param.{Param}
use Rattle.word_program.specs.declared.parameter.Role.{Role}
use Rattle.word_program.specs.declared.parameter.Role.TheVariants.{Output, InputArray, InputScalar}
use Rattle.word_program.specs.declared.operation.Op.{Op}
use Rattle.word_program.specs.declared.operation.Operand.{Operand}
use Rattle.word_program.specs.declared.operation.Operand.TheVariants as operands
use Rattle.word_program.specs.declared.operation.Target.{Target}
use Rattle.word_program.specs.declared.operation.Target.TheVariants as targets
use Rattle.word_program.specs.contracts.parameter.BoundsPartialEq.TheImpl as bounds_impl
use Rattle.word_program.specs.contracts.parameter.RolePartialEq.TheImpl as role_impl
use Rattle.word_program.specs.contracts.parameter.ParamPartialEq.TheImpl as param_impl
use Rattle.word_program.specs.contracts.operation.OperandPartialEq.TheImpl as operand_impl
use Rattle.word_program.specs.contracts.operation.TargetPartialEq.TheImpl as target_impl
use Rattle.word_program.specs.contracts.operation.OpPartialEq.TheImpl as op_impl
use Rattle.word_program.specs.Program.{Source}

pub bounds_decides : (a b : Bounds) → Decides ((bounds_impl.eq-value).it a b) (a ≡ b)
bounds_decides a b =
    Decides-like ((bounds_impl.eq-value).it a b)
    (λ h i. record { low = h.0 i; high = h.1 i })
    (λ e. (ap (λ x. x.low) e, ap (λ x. x.high) e))
    (Decides-and (a.low == b.low) (a.high == b.high) (Decides-eqb a.low b.low) (Decides-eqb a.high b.high))

never : {P : Type 0} → false ≡ true → P
never e = absurd (cc)

role_equal : (a b : Role) → (role_impl.eq-value).it a b ≡ true → a ≡ b
role_equal Output Output e = refl
role_equal InputArray InputArray e = refl
role_equal InputScalar InputScalar e = refl
role_equal a b e = never e

role_itself : (a : Role) → (role_impl.eq-value).it a a ≡ true
role_itself Output = refl
role_itself InputArray = refl
role_itself InputScalar = refl

pub role_decides : (a b : Role) → Decides ((role_impl.eq-value).it a b) (a ≡ b)
role_decides a b = (role_equal a b, λ e. ap (λ x. (role_impl.eq-value).it a x) (sym e) ∙ role_itself a)

kind_equal : (a b : Kind) → (kind_impl.eq-value).it a b ≡ true → a ≡ b
kind_equal AddCarry AddCarry e = refl
kind_equal SubBorrow SubBorrow e = refl
kind_equal MulX MulX e = refl
kind_equal CMov CMov e = refl
kind_equal Add Add e = refl
kind_equal Sub Sub e = refl
kind_equal Mul Mul e = refl
kind_equal And And e = refl
kind_equal Or Or e = refl
kind_equal Xor Xor e = refl
kind_equal Not Not e = refl
kind_equal Copy Copy e = refl
kind_equal (Shl m) (Shl n) e = ap (λ x. Shl x) ((Decides-eqb m n).0 e)
kind_equal (Shr m) (Shr n) e = ap (λ x. Shr x) ((Decides-eqb m n).0 e)
kind_equal (Shrd m) (Shrd n) e = ap (λ x. Shrd x) ((Decides-eqb m n).0 e)
kind_equal a b e = never e

kind_itself : (a : Kind) → (kind_impl.eq-value).it a a ≡ true
kind_itself AddCarry = refl
kind_itself SubBorrow = refl
kind_itself MulX = refl
kind_itself CMov = refl
kind_itself Add = refl
kind_itself Sub = refl
kind_itself Mul = refl
kind_itself And = refl
kind_itself Or = refl
kind_itself Xor = refl
kind_itself Not = refl
kind_itself Copy = refl
kind_itself (Shl m) = (Decides-eqb m m).1 refl
kind_itself (Shr m) = (Decides-eqb m m).1 refl
kind_itself (Shrd m) = (Decides-eqb m m).1 refl

pub kind_decides : (a b : Kind) → Decides ((kind_impl.eq-value).it a b) (a ≡ b)
kind_decides a b = (kind_equal a b, λ e. ap (λ x. (kind_impl.eq-value).it a x) (sym e) ∙ kind_itself a)

operand_equal : (a b : Operand) → (operand_impl.eq-value).it a b ≡ true → a ≡ b
operand_equal (operands.Literal m) (operands.Literal n) e = ap (λ x. operands.Literal x) ((Decides-eqb m n).0 e)
operand_equal (operands.Value m) (operands.Value n) e = ap (λ x. operands.Value x) ((Decides-eqb m n).0 e)
operand_equal (operands.Input p w) (operands.Input q x) e =
    let both = (Decides-and (p == q) (w == x) (Decides-eqb p q) (Decides-eqb w x)).0 e in
    λ i. operands.Input (both.0 i) (both.1 i)
operand_equal a b e = never e

operand_itself : (a : Operand) → (operand_impl.eq-value).it a a ≡ true
operand_itself (operands.Literal m) = (Decides-eqb m m).1 refl
operand_itself (operands.Value m) = (Decides-eqb m m).1 refl
operand_itself (operands.Input p w) = (Decides-and (p == p) (w == w) (Decides-eqb p p) (Decides-eqb w w)).1 (refl, refl)

pub operand_decides : (a b : Operand) → Decides ((operand_impl.eq-value).it a b) (a ≡ b)
operand_decides a b = (operand_equal a b, λ e. ap (λ x. (operand_impl.eq-value).it a x) (sym e) ∙ operand_itself a)

target_equal : (a b : Target) → (target_impl.eq-value).it a b ≡ true → a ≡ b
target_equal targets.Value targets.Value e = refl
target_equal targets.Unused targets.Unused e = refl
target_equal (targets.Output p w) (targets.Output q x) e =
    let both = (Decides-and (p == q) (w == x) (Decides-eqb p q) (Decides-eqb w x)).0 e in
    λ i. targets.Output (both.0 i) (both.1 i)
target_equal a b e = never e

target_itself : (a : Target) → (target_impl.eq-value).it a a ≡ true
target_itself targets.Value = refl
target_itself targets.Unused = refl
target_itself (targets.Output p w) = (Decides-and (p == p) (w == w) (Decides-eqb p p) (Decides-eqb w w)).1 (refl, refl)

pub target_decides : (a b : Target) → Decides ((target_impl.eq-value).it a b) (a ≡ b)
target_decides a b = (target_equal a b, λ e. ap (λ x. (target_impl.eq-value).it a x) (sym e) ∙ target_itself a)

pub param_decides : (a b : Param) → Decides ((param_impl.eq-value).it a b) (a ≡ b)
param_decides a b =
    let bounds = slice_eq-Decides bounds_decides a.bounds b.bounds _ refl in
    let rest = Decides-and _ _ (role_decides a.role b.role) bounds in
    Decides-like ((param_impl.eq-value).it a b)
    (λ h i. record { name = h.0 i; role = h.1.0 i; bounds = h.1.1 i })
    (λ e. (ap (λ x. x.name) e, (ap (λ x. x.role) e, ap (λ x. x.bounds) e)))
    (Decides-and _ _ (bytes_eq-Decides a.name b.name) rest)

pub op_decides : (a b : Op) → Decides ((op_impl.eq-value).it a b) (a ≡ b)
op_decides a b =
    let args = slice_eq-Decides operand_decides a.args b.args _ refl in
    let writes = slice_eq-Decides target_decides a.targets b.targets _ refl in
    Decides-like ((op_impl.eq-value).it a b)
    (λ h i. record { kind = h.0 i; args = h.1.0 i; targets = h.1.1 i })
    (λ e. (ap (λ x. x.kind) e, (ap (λ x. x.args) e, ap (λ x. x.targets) e)))
    (Decides-and _ _ (kind_decides a.kind b.kind) (Decides-and _ _ args writes))

-- programs that agree in all but their operations are equal where these are
pub same_from : (r : Bool) (a b x y : Source) → a ≡ x → b ≡ y → a.name ≡ b.name → a.params ≡ b.params
    → a.overlap ≡ b.overlap → Decides r (a.ops ≡ b.ops) → Decides r (x ≡ y)
same_from r a b x y p q name params overlap d =
    Decides-like r
    (λ ops. sym p ∙ ((λ i. record { name = name i; params = params i; ops = ops i; overlap = overlap i }) ∙ q))
    (λ e. ap (λ s. s.ops) (p ∙ (e ∙ sym q)))
    d

-- programs of which a part differs are not equal
pub differ_from : {P : Type 0} (part : Source → P) (a b x y : Source) → a ≡ x → b ≡ y → ¬ (part a ≡ part b)
    → Decides false (x ≡ y)
differ_from part a b x y p q h = (λ e. absurd (cc), λ e. absurd (h (ap part (p ∙ (e ∙ sym q)))))

-- what a test that is not passed, or passed, says of the test that it turns
pub turned_false : (r t : Bool) → r ≡ not t → r ≡ false → t ≡ true
turned_false r true e f = refl
turned_false r false e f = absurd (cc)

pub turned_true : (r t : Bool) → r ≡ not t → r ≡ true → t ≡ false
turned_true r false e f = refl
turned_true r true e f = absurd (cc)
