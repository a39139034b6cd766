-- What is kept of the literals of a fact.
use Rattle.std.proofs.Common.{◌≡◌, ℕ, suc, ◌+◌, ◌<◌, true, List, ◌∷◌, map, length, drop, get_or, sym, ap, ◌∙◌, subst, arith}
use Rattle.std.specs.List.{list_all}
use Rattle.std.proofs.Math.Seq.{drop-cons}
use Rattle.fs_model.proofs.Booleans.{and_first, and_second}
use Rattle.nf_rel.specs.declared.literals.NLit.{NLit}
use Rattle.nf_rel.specs.Literals.{NormalLiteral, True, False, Is}
use Rattle.nf_rel.specs.View.{literal_in}
use Rattle.sym_facts.specs.Facts.{may_be_kept}

pub not_true : (l : NormalLiteral) → may_be_kept l ≡ true → l ≡ True → ⊥
not_true True e h = cc
not_true False e h = cc
not_true (Is d k b) e h = cc

-- a literal and those behind it
pub next_kept : (ls : List NLit) (k : ℕ) (l : NLit) → k < length ls → l ≡ get_or ls k l → list_all may_be_kept (map literal_in (drop k ls)) ≡ true
    → (may_be_kept (literal_in l) ≡ true) × (list_all may_be_kept (map literal_in (drop (k + 1) ls)) ≡ true)
next_kept ls k l h e f =
    let n : suc k ≡ k + 1 = omega arith in
    let more : drop k ls ≡ l ∷ drop (k + 1) ls = drop-cons ls k l h ∙ ap (λ x. x ∷ drop (suc k) ls) (sym e) ∙ ap (λ j. l ∷ drop j ls) n in
    let g : list_all may_be_kept (map literal_in (l ∷ drop (k + 1) ls)) ≡ true = subst (λ xs. list_all may_be_kept (map literal_in xs) ≡ true) more f in (
      and_first (may_be_kept (literal_in l)) (list_all may_be_kept (map literal_in (drop (k + 1) ls))) g,
      and_second (may_be_kept (literal_in l)) (list_all may_be_kept (map literal_in (drop (k + 1) ls))) g,
    )
