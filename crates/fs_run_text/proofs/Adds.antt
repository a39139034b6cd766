-- Items of more names, and the text of lines.
use Rattle.std.proofs.Common.{◌≡◌, ℕ, ◌+◌, ◌<◌, true, false, cond, List, [], ◌∷◌, ◌++◌, length, take, get_or, refl, sym, ◌∙◌, ap, subst, append_assoc}
use Rattle.std.specs.Prelude.{map}
use Rattle.std.specs.List.{filter}
use Rattle.std.proofs.lemmas.List.{take_more}
use Rattle.fs_model.specs.declared.parts.VarInfo.{VarInfo}
use Rattle.fs_model.specs.Runs.{is_output}
use Rattle.fs_runs.specs.Outcomes.{Outputs, output_names}
use Rattle.fs_run_text.specs.ItemTexts.{AreItems, AddsItems}

names_more : (vs ws : List VarInfo) → output_names (vs ++ ws) ≡ output_names vs ++ output_names ws
names_more [] ws = refl
names_more (v ∷ vs) ws =
    elim (is_output v.role) as (λ b. map (λ (w : VarInfo). w.name)
    (cond b (v ∷ filter (λ w. is_output w.role) (vs ++ ws)) (filter (λ w. is_output w.role) (vs ++ ws)))
    ≡ map (λ (w : VarInfo). w.name) (cond b (v ∷ filter (λ w. is_output w.role) vs) (filter (λ w. is_output w.role) vs)) ++ output_names ws) [
      | true ↦ ap (λ ns. v.name ∷ ns) (names_more vs ws)
      | false ↦ names_more vs ws
    ]

items_join : (outs : Outputs) (ns ms is js : List (List ℕ)) → AreItems outs ns is → AreItems outs ms js → AreItems outs (ns ++ ms) (is ++ js)
items_join outs [] ms [] js a b = b
items_join outs [] ms (i ∷ is) js a b = absurd a
items_join outs (n ∷ ns) ms [] js a b = absurd a
items_join outs (n ∷ ns) ms (i ∷ is) js a b = (a.0, items_join outs ns ms is js a.1 b)

pub items_more : (outs : Outputs) (vs : List VarInfo) (i : ℕ) (v : VarInfo) (old new : List (List ℕ)) → i < length vs → v ≡ get_or vs i v
    → AreItems outs (output_names (take i vs)) old → AddsItems outs (output_names (v ∷ [])) old new → AreItems outs (output_names (take (i + 1) vs)) new
items_more outs vs i v old new h is a b =
    let taken : take (i + 1) vs ≡ take i vs ++ v ∷ [] = take_more vs i v h ∙ ap (λ x. take i vs ++ x ∷ []) (sym is) in
    let names : output_names (take i vs) ++ output_names (v ∷ []) ≡ output_names (take (i + 1) vs) = sym (names_more (take i vs) (v ∷ []))
    ∙ ap output_names (sym taken) in
    let all : AreItems outs (output_names (take i vs) ++ output_names (v ∷ [])) (old ++ b.added) =
    items_join outs (output_names (take i vs)) (output_names (v ∷ [])) old b.added a b.are_items in
    subst (λ ns. AreItems outs ns new) names (subst (λ is. AreItems outs (output_names (take i vs) ++ output_names (v ∷ [])) is) (sym b.all) all)

pub end_spelled : (a d s f line whole : List ℕ) → line ≡ a ++ (d ++ s) → whole ≡ line ++ f → whole ≡ a ++ (d ++ (s ++ f))
end_spelled a d s f line whole p q = q ∙ ap (λ x. x ++ f) p ∙ append_assoc a (d ++ s) f ∙ ap (λ x. a ++ x) (append_assoc d s f)
