use Rattle.std.proofs.Common.{◌≡◌, ◌-◌, not, length, slice_get, Some, None, subst, ap, sym, ◌∙◌}
use Rattle.std.specs.Option.{option_copied}
use Rattle.nf_trees.specs.View.{polynomial_in}
use Rattle.nf_terms.proofs.LastWrite.{stays_with_last, stays_zero, stays_symbol}
use Rattle.nf_terms.proofs.ordered.stays_read.Goals as goal

pub returns-in-Some : goal.returns-in-Some
returns-in-Some c =
    let index = polynomial_in c.args.index.now in
    let found = sym c.last.ensures.value ∙ ap option_copied c.in-Some.is in
    ap not c.differs_by_constant.ensures
    ∙ sym (stays_with_last c.args.array.now c.in-Some.field-0.now index
    (subst (λ ws. slice_get ws (length ws - 1) ≡ Some c.in-Some.field-0.now) c.deref.ensures.value found))

pub returns-in-Zero : goal.returns-in-Zero
returns-in-Zero c =
    let none = sym c.last.ensures.value ∙ ap option_copied c.in-None.is in
    sym (stays_zero c.args.array.now (polynomial_in c.args.index.now)
    (subst (λ ws. slice_get ws (length ws - 1) ≡ None) c.deref.ensures.value none) c.in-Zero.is)

pub returns-in-Sym : goal.returns-in-Sym
returns-in-Sym c =
    let none = sym c.last.ensures.value ∙ ap option_copied c.in-None.is in
    sym (stays_symbol c.args.array.now c.in-Sym.field-0 (polynomial_in c.args.index.now)
    (subst (λ ws. slice_get ws (length ws - 1) ≡ None) c.deref.ensures.value none) c.in-Sym.is)
