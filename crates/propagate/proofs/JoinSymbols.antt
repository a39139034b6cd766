-- A joined fact has no symbols but those of the old fact's equations and literals, and its freed positions.
use Rattle.std.proofs.Common.{◌≡◌, ℕ, ◌+◌, Bool, true, false, refl, sym, subst, List, [], ◌∷◌, Option, Some, None}
use Rattle.std.specs.List.{list_all}
use Rattle.std.proofs.lemmas.Bool.{and_from}
use Rattle.nf_trees.specs.NormalTerms.{Polynomial, polynomial_of_symbol}
use Rattle.nf_terms.specs.Forms.{sort_of_form}
use Rattle.nf_terms.specs.Computed.{Done}
use Rattle.nf_terms.specs.declared.symbols.Sort.{Sort as TermSort}
use Rattle.nf_terms.specs.declared.symbols.Sort.TheVariants as term
use Rattle.fs_model.specs.declared.sides.Pos.{Pos}
use Rattle.nf_terms.specs.declared.form.Nf.{Nf}
use Rattle.nf_terms.specs.declared.form.Nf.TheVariants.{Num, Arr, Seq}
use Rattle.nf_sums.specs.Operations.{normal_sum, normal_difference}
use Rattle.nf_substitution.specs.Vectors.{number_at}
use Rattle.nf_substitution.specs.Substitution.{polynomial_substituted}
use Rattle.sym_facts.proofs.Results.{added_within, subtracted_within}
use Rattle.sym_paths.specs.Execution.{Post}
use Rattle.sym_facts.specs.Facts.{FactPosition, Fact}
use Rattle.sym_facts.specs.Entailment.{form_like, Missing}
use Rattle.sym_facts.specs.Pairings.{form_within, literal_within}
use Rattle.sym_facts.specs.FactParts.{equation_within}
use Rattle.propagate.specs.Joins.{symbol_like, is_among, join}
use Rattle.propagate.proofs.Passes.{FreePass, AllEquations}
use Rattle.propagate.proofs.Joined.{Known, AllKnown, positions_hold, kept_pass, joining}

module _ (test : Pos × TermSort → Bool) (Q : Pos → Type 0) where
  abbrev pub Inside : Pos → Option Nf → Type 0
  Inside p o = equation_within test o ≡ true

  -- the symbol of a position with an equation passes where the position does
  abbrev pub OwnPasses : Pos → Option Nf → Type 0
  OwnPasses p None = Unit {0}
  OwnPasses p (Some f) = Q p → test (p, sort_of_form f) ≡ true

  abbrev Freeable : Pos → Nf → Type 0
  Freeable p f = (form_within test f ≡ true) × (Q p → test (p, sort_of_form f) ≡ true)

  own_symbol_within : (q : Pos) (t : Nf) → test (q, sort_of_form t) ≡ true → form_within test (symbol_like q t) ≡ true
  own_symbol_within q (Num t) h = and_from (test (q, term.Scalar)) true h refl
  own_symbol_within q (Arr t) h = and_from (test (q, term.Array)) true h refl
  own_symbol_within q (Seq t) h = and_from (test (q, term.List)) true h refl

  module _ (v : List (Pos × Nf)) where
    numbers : (p q : Pos) (t x d e s r : Polynomial) → Freeable p (Num t) → Freeable q (Num x) → Q q → normal_difference t x ≡ Done d
        → normal_difference (number_at v p) (number_at v q) ≡ Done e → polynomial_substituted v d ≡ Done s → e ≡ s
        → normal_sum (polynomial_of_symbol q) d ≡ Done r
        → Inside p (Some (Num r))
    numbers p q t x d e s r hp hq free_q hd he hs same hr =
        added_within test (polynomial_of_symbol q) d r (own_symbol_within q (Num t) (hq.1 free_q)) (subtracted_within test t x d hp.0 hq.0 hd) hr

    forms : (p q : Pos) (t : Nf) → Freeable p t → Freeable q t → Q q → form_like v p t ≡ form_like v q t → Inside p (Some (symbol_like q t))
    forms p q t hp hq free_q m = own_symbol_within q t (hq.1 free_q)

    all_inside : (k : ℕ) (missing : List ℕ) (ps : List FactPosition) → AllEquations Inside ps → AllEquations OwnPasses ps
        → AllKnown v Freeable Q Inside numbers forms (λ p. refl) k missing ps
    all_inside k missing [] h g = tt
    all_inside k missing (p ∷ ps) h g = (known (is_among k missing) p.pos p.equation h.0 g.0, all_inside (k + 1) missing ps h.1 g.1)
      where
        known : (b : Bool) (p : Pos) (o : Option Nf) → Inside p o → OwnPasses p o → Known v Freeable Q Inside numbers forms (λ p. refl) b p o
        known false p o h g = h
        known true p None h g = tt
        known true p (Some t) h g = (h, g)

  abbrev pub JoinWithin : Fact → Type 0
  JoinWithin f = AllEquations Inside f.positions × (list_all (literal_within test) f.literals ≡ true)

  pub join_within : (old new : Fact) (post : Post) (missing : Missing) → join old post missing ≡ Done new → AllEquations Inside old.positions
      → AllEquations OwnPasses old.positions → list_all (literal_within test) old.literals ≡ true
      → FreePass (λ s. Q) new.positions → JoinWithin new
  join_within old new post missing e h g l m =
      let j = joining old new post missing e in
      let v = post.vector in
      let n = subst (λ (z : Fact). FreePass (λ s. Q) z.positions) (sym j.whole) m in
      subst JoinWithin j.whole (
        positions_hold v Freeable Q Inside (numbers v) (forms v) (λ p. refl) 0 missing.equations [] old.positions j.positions
            (all_inside v 0 missing.equations old.positions h g) tt j.joined n,
        kept_pass (literal_within test) 0 missing.literals old.literals l,
      )
