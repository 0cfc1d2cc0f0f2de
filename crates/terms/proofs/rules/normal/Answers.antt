-- What the rules make fits the table and stands for the form's word.
use Rattle.std.proofs.Common.{sym, subst}
use Rattle.std.proofs.lemmas.Result.{IfOk-weaker}
use Rattle.terms.specs.Forms.{BuiltFits}
use Rattle.terms.specs.Meaning.{Stands, form_value}
use Rattle.terms.proofs.NormalForms.{normal_stands, normal_fits}
use Rattle.terms.proofs.rules.normal.Goals as goal

-- src/rules.rt:45:1
pub returns-clause-fits : goal.returns-clause-fits
returns-clause-fits g c =
    let table = g.N.Nodes.nodes c.args.nodes.now in
    let fits = normal_fits table c.args.form c.count-count.ensures.table c.requires in
    IfOk-weaker c.applied.result _ _ (λ b e. subst (BuiltFits table) (sym e) fits) c.applied.ensures

-- src/rules.rt:45:1
pub returns-clause-value : goal.returns-clause-value
returns-clause-value g c =
    let table = g.N.Nodes.nodes c.args.nodes.now in
    IfOk-weaker c.applied.result _ _ (λ b e start val i s a.
    subst (Stands start val (form_value start val c.args.form)) (sym e)
    (normal_stands start val table c.args.form c.count-count.ensures.table c.requires i s a))
    c.applied.ensures
