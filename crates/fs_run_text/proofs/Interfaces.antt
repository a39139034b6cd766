-- The outputs of machines with the same interface.
use Rattle.std.proofs.Common.{◌≡◌, ℕ, Bool, true, false, cond, List, [], ◌∷◌, Option, refl, sym, ◌∙◌, ap, subst, inl, inr}
use Rattle.std.specs.Prelude.{Some, None, IsSome, map, ◌&&◌, not, ◌⊎◌}
use Rattle.std.specs.List.{filter, AllByRecursion}
use Rattle.std.specs.Str.{bytes_eq}
use Rattle.std.specs.Bool.{Decides}
use Rattle.std.proofs.lemmas.Bool.Decides.{Decides-like}
use Rattle.std.proofs.lemmas.Bool.{false≢true, not-false}
use Rattle.std.proofs.lemmas.Slice.Eq.{bytes_eq-Decides}
use Rattle.fs_model.proofs.Options.{option_or_first, option_or_second, some_is_not_none}
use Rattle.fs_model.proofs.Booleans.{and_first}
use Rattle.fs_model.specs.declared.parts.Role.{Role}
use Rattle.fs_model.specs.declared.parts.Role.TheVariants.{Input, Output, Local}
use Rattle.fs_model.specs.declared.parts.VarInfo.{VarInfo}
use Rattle.fs_model.specs.Machines.{Fsmd}
use Rattle.fs_model.specs.Runs.{Content, is_output}
use Rattle.fs_stores.specs.declared.values.Value.{Value}
use Rattle.fs_stores.specs.Values.{content_of}
use Rattle.fs_runs.specs.Outcomes.{Outputs, output_names, outputs_by_name, told_by, HoldsEach}
use Rattle.fs_pair.specs.Interfaces.{is_interface, same_role, same_sort, variable_named, is_like, lacks_match, first_unmatched, interface_fault}
use Rattle.fs_run_text.specs.ItemTexts.{SameOutputs, AgreeOnNames}

-- what holds of all names holds of those behind the first variable
pub all_behind : (P : List ℕ → Type 0) (v : VarInfo) (vs : List VarInfo) → AllByRecursion P (output_names (v ∷ vs)) → AllByRecursion P (output_names vs)
all_behind P v vs =
    elim (is_output v.role) as (λ b. AllByRecursion P
    (map (λ (w : VarInfo). w.name) (cond b (v ∷ filter (λ w. is_output w.role) vs) (filter (λ w. is_output w.role) vs))) → AllByRecursion P (output_names vs)) [
      | true ↦ λ all. all.1
      | false ↦ λ all. all
    ]

-- what holds of all output names holds of the name of an output that is found
found : (P : List ℕ → Type 0) (vs : List VarInfo) (name : List ℕ) (u : VarInfo) → variable_named vs name ≡ Some u → is_output u.role ≡ true
    → AllByRecursion P (output_names vs) → P name
found P [] name u is out all = absurd (some_is_not_none u (sym is))
found P (v ∷ vs) name u is out all =
    elim (bytes_eq v.name name) as (λ b. bytes_eq v.name name ≡ b → cond b (Some v) (variable_named vs name) ≡ Some u → P name) [
      | true ↦ λ here q.
          let same : v ≡ u = cc q in
          let first : is_output v.role ≡ true = ap (λ (w : VarInfo). is_output w.role) same ∙ out in
          let names : output_names (v ∷ vs) ≡ v.name ∷ output_names vs = rw first refl in
          subst P ((bytes_eq-Decides v.name name).0 here) (subst (AllByRecursion P) names all).0
      | false ↦ λ _ q. found P vs name u q out (all_behind P v vs all)
    ] refl is

interface_of : (r : Role) → is_output r ≡ true → is_interface r ≡ true
interface_of Input out = refl
interface_of Output out = refl
interface_of Local out = out

output_like : (r q : Role) → is_output r ≡ true → same_role r q ≡ true → is_output q ≡ true
output_like Input q out same = absurd (false≢true out)
output_like Output Input out same = same
output_like Output Output out same = refl
output_like Output Local out same = same
output_like Local q out same = absurd (false≢true out)

-- a variable that was found and is an output
record Partner (o : Option VarInfo) : Type 0 where
  pub variable : VarInfo
  pub is : o ≡ Some variable
  pub out : is_output variable.role ≡ true

-- what has a match, and is an output, has an output as its match
partner : (v : VarInfo) (o : Option VarInfo) → is_output v.role ≡ true → (is_interface v.role && not (is_like v o)) ≡ false → Partner o
partner v None out match = absurd (false≢true (sym (subst (λ b. (b && true) ≡ false) (interface_of v.role out) match)))
partner v (Some u) out match =
    let like : not (same_role v.role u.role && same_sort v.sort u.sort) ≡ false =
    subst (λ b. (b && not (same_role v.role u.role && same_sort v.sort u.sort)) ≡ false) (interface_of v.role out) match in
    record {
      variable = u;
      is = refl;
      out = output_like v.role u.role out
          (and_first (same_role v.role u.role) (same_sort v.sort u.sort) (not-false (same_role v.role u.role && same_sort v.sort u.sort) like));
    }

-- what holds of the others' output names holds of those that have a match there
pub carried : (P : List ℕ → Type 0) (vs others : List VarInfo) → first_unmatched vs others ≡ None → AllByRecursion P (output_names others)
    → AllByRecursion P (output_names vs)
carried P [] others none all = tt
carried P (v ∷ vs) others none all =
    elim (lacks_match others v) as (λ b. lacks_match others v ≡ b → cond b (Some v.name) (first_unmatched vs others) ≡ None
    → AllByRecursion P (output_names (v ∷ vs))) [
      | true ↦ λ _ q. absurd (some_is_not_none v.name q)
      | false ↦ λ match q.
          let rest : AllByRecursion P (output_names vs) = carried P vs others q all in
          elim (is_output v.role) as (λ b. is_output v.role ≡ b
          → AllByRecursion P (map (λ (w : VarInfo). w.name) (cond b (v ∷ filter (λ w. is_output w.role) vs) (filter (λ w. is_output w.role) vs)))) [
            | true ↦ λ out. let p = partner v (variable_named others v.name) out match in (found P others v.name p.variable p.is p.out all, rest)
            | false ↦ λ _. rest
          ] refl
    ] refl none

-- no such name
abbrev pub Away : List ℕ → List (List ℕ) → Type 0
Away name ns = AllByRecursion (λ n. bytes_eq n name ≡ false) ns

in_or_out : (P : List ℕ → Type 0) (ns : List (List ℕ)) (name : List ℕ) → AllByRecursion P ns → P name ⊎ Away name ns
in_or_out P [] name all = inr tt
in_or_out P (n ∷ ns) name all =
    elim (bytes_eq n name) as (λ b. bytes_eq n name ≡ b → P name ⊎ Away name (n ∷ ns)) [
      | true ↦ λ here. inl (subst P ((bytes_eq-Decides n name).0 here) all.0)
      | false ↦ λ not_here. elim (in_or_out P ns name all.1) as (λ _. P name ⊎ Away name (n ∷ ns)) [ inl p ↦ inl p | inr rest ↦ inr (not_here, rest) ]
    ] refl

told_none : (ns : List (List ℕ)) (cs : List Content) (name : List ℕ) → Away name ns → outputs_by_name ns cs name ≡ None
told_none [] cs name away = refl
told_none (n ∷ ns) [] name away = refl
told_none (n ∷ ns) (c ∷ cs) name away = rw away.0 (told_none ns cs name away.1)

-- the left machine's outputs are outputs of the right one
pub holds_there : (a b : Fsmd) (outs : Outputs) → interface_fault a b ≡ None → HoldsEach outs (output_names b.variables)
    → HoldsEach outs (output_names a.variables)
holds_there a b outs none all =
    carried (λ n. IsSome (outs n)) a.variables b.variables
    (option_or_first (first_unmatched a.variables b.variables) (first_unmatched b.variables a.variables) none) all

-- names that are no outputs of the left machine are none of the right one
pub same_everywhere : (a b : Fsmd) (us vs : List Value) → interface_fault a b ≡ None
    → AllByRecursion (λ n. told_by a us n ≡ told_by b vs n) (output_names a.variables) → SameOutputs (told_by a us) (told_by b vs)
same_everywhere a b us vs none all name =
    elim (in_or_out (λ n. told_by a us n ≡ told_by b vs n) (output_names a.variables) name all) as (λ _. told_by a us name ≡ told_by b vs name) [
      | inl same ↦ same
      | inr away ↦
          let there : Away name (output_names b.variables) = carried (λ n. bytes_eq n name ≡ false) b.variables a.variables
          (option_or_second (first_unmatched a.variables b.variables) (first_unmatched b.variables a.variables) none) away in
          told_none (output_names a.variables) (map content_of us) name away ∙ sym (told_none (output_names b.variables) (map content_of vs) name there)
    ]

pub each_same : (left right : Outputs) (ns : List (List ℕ)) → SameOutputs left right → AllByRecursion (λ n. left n ≡ right n) ns
each_same left right [] same = tt
each_same left right (n ∷ ns) same = (same n, each_same left right ns same)

-- that the outputs of the left machine agree decides that all do
pub told_same : (a b : Fsmd) (us vs lefts rights : List Value) (same : Bool) → interface_fault a b ≡ None → lefts ≡ us → rights ≡ vs
    → Decides same (AgreeOnNames (told_by a lefts) (told_by b rights) (output_names a.variables))
    → Decides same (SameOutputs (told_by a us) (told_by b vs))
told_same a b us vs lefts rights same none left right told =
    Decides-like same (same_everywhere a b us vs none) (each_same (told_by a us) (told_by b vs) (output_names a.variables))
    (subst (λ ws. Decides same (AgreeOnNames (told_by a us) (told_by b ws) (output_names a.variables))) right
    (subst (λ ws. Decides same (AgreeOnNames (told_by a ws) (told_by b rights) (output_names a.variables))) left told))
