-- Inputs made for a machine serve another with the same inputs and outputs.
use Rattle.std.proofs.Common.{◌≡◌, ℕ, zero, suc, Bool, true, false, cond, List, [], ◌∷◌, Option, refl, sym, ◌∙◌, ap, subst}
use Rattle.std.specs.Prelude.{Some, None, map, ◌&&◌, not, slice_get}
use Rattle.std.specs.List.{filter}
use Rattle.std.specs.Str.{bytes_eq}
use Rattle.std.proofs.lemmas.Bool.{false≢true, not-false}
use Rattle.fs_model.proofs.Options.{option_or_second, some_is_not_none}
use Rattle.fs_model.proofs.Booleans.{and_first, and_second}
use Rattle.fs_model.specs.declared.parts.Role.{Role}
use Rattle.fs_model.specs.declared.parts.Role.TheVariants.{Input, Output, Local}
use Rattle.fs_model.specs.declared.parts.VarInfo.{VarInfo}
use Rattle.fs_model.specs.Runs.{is_input}
use Rattle.fs_pair.specs.Interfaces.{is_interface, same_role, same_sort, variable_named, is_like, lacks_match, first_unmatched}
use Rattle.fs_pair.proofs.Tests.{same_sort_is}
use Rattle.fs_stores.specs.InputValues.{input_signatures, sort_named}
use Rattle.fs_run_text.specs.PrintingLaws.{InputsServeBoth}

-- each variable has its match

matched_step : (us others : List VarInfo) (u v : VarInfo) (b : Bool) → lacks_match others u ≡ b → cond b (Some u.name) (first_unmatched us others) ≡ None
    → u ≡ v → lacks_match others v ≡ false
matched_step us others u v true e none same = absurd (some_is_not_none u.name none)
matched_step us others u v false e none same = subst (λ w. lacks_match others w ≡ false) same e

rest_none : (us others : List VarInfo) (u : VarInfo) (b : Bool) → cond b (Some u.name) (first_unmatched us others) ≡ None → first_unmatched us others ≡ None
rest_none us others u true none = absurd (some_is_not_none u.name none)
rest_none us others u false none = none

matched : (vs others : List VarInfo) → first_unmatched vs others ≡ None → (k : ℕ) (v : VarInfo) → slice_get vs k ≡ Some v → lacks_match others v ≡ false
matched [] others none k v e = absurd (some_is_not_none v (sym e))
matched (u ∷ us) others none zero v e = matched_step us others u v (lacks_match others u) refl none (cc e)
matched (u ∷ us) others none (suc k) v e = matched us others (rest_none us others u (lacks_match others u) none) k v e

-- the match of an input is an input of the same sort

input_interface : (r : Role) → is_input r ≡ true → is_interface r ≡ true
input_interface Input h = refl
input_interface Output h = absurd (false≢true h)
input_interface Local h = absurd (false≢true h)

input_like : (r q : Role) → is_input r ≡ true → same_role r q ≡ true → is_input q ≡ true
input_like Input Input h s = refl
input_like Input Output h s = absurd (false≢true s)
input_like Input Local h s = absurd (false≢true s)
input_like Output q h s = absurd (false≢true h)
input_like Local q h s = absurd (false≢true h)

record Partner (v : VarInfo) (o : Option VarInfo) : Type 0 where
  variable : VarInfo
  found : o ≡ Some variable
  input : is_input variable.role ≡ true
  sort : variable.sort ≡ v.sort

partner : (v : VarInfo) (o : Option VarInfo) → is_input v.role ≡ true → (is_interface v.role && not (is_like v o)) ≡ false → Partner v o
partner v None inp match = absurd (false≢true (sym (subst (λ b. (b && true) ≡ false) (input_interface v.role inp) match)))
partner v (Some u) inp match =
    let like : (same_role v.role u.role && same_sort v.sort u.sort) ≡ true =
    not-false (same_role v.role u.role && same_sort v.sort u.sort)
    (subst (λ b. (b && not (same_role v.role u.role && same_sort v.sort u.sort)) ≡ false) (input_interface v.role inp) match) in
    record {
      variable = u;
      found = refl;
      input = input_like v.role u.role inp (and_first (same_role v.role u.role) (same_sort v.sort u.sort) like);
      sort = sym (same_sort_is v.sort u.sort (and_second (same_role v.role u.role) (same_sort v.sort u.sort) like));
    }

-- and stands among the signatures of the inputs

signature_found : (vs : List VarInfo) (name : List ℕ) (u : VarInfo) → variable_named vs name ≡ Some u → is_input u.role ≡ true
    → sort_named (input_signatures vs) name ≡ Some u.sort
signature_found [] name u is inp = absurd (some_is_not_none u (sym is))
signature_found (w ∷ ws) name u is inp =
    elim (bytes_eq w.name name) as (λ b. bytes_eq w.name name ≡ b → cond b (Some w) (variable_named ws name) ≡ Some u
    → sort_named (input_signatures (w ∷ ws)) name ≡ Some u.sort) [
      | true ↦ λ here q.
          let same : w ≡ u = cc q in
          let first : is_input w.role ≡ true = ap (λ (v : VarInfo). is_input v.role) same ∙ inp in
          let signatures : input_signatures (w ∷ ws) ≡ (w.name, w.sort) ∷ input_signatures ws = rw first refl in
          let head : sort_named ((w.name, w.sort) ∷ input_signatures ws) name ≡ Some w.sort = rw here refl in
          ap (λ fs. sort_named fs name) signatures ∙ head ∙ ap (λ (v : VarInfo). Some v.sort) same
      | false ↦ λ away q.
          let rest : sort_named (input_signatures ws) name ≡ Some u.sort = signature_found ws name u q inp in
          elim (is_input w.role) as (λ r. sort_named
          (map (λ (v : VarInfo). (v.name, v.sort)) (cond r (w ∷ filter (λ v. is_input v.role) ws) (filter (λ v. is_input v.role) ws))) name ≡ Some u.sort) [
            | true ↦ rw away rest
            | false ↦ rest
          ]
    ] refl is

pub serves_both : InputsServeBoth
serves_both a b signatures alike e k v is inp =
    let none = option_or_second (first_unmatched a.variables b.variables) (first_unmatched b.variables a.variables) alike in
    let p = partner v (variable_named a.variables v.name) inp (matched b.variables a.variables none k v is) in
    subst (λ l. sort_named l v.name ≡ Some v.sort) (sym e) (signature_found a.variables v.name p.variable p.found p.input ∙ ap Some p.sort)
