-- Names that parts declare, and what is noted of them.
use Rattle.std.proofs.Common.{◌≡◌, ℕ, List, [], ◌∷◌, ◌++◌, length, refl, sym, ◌∙◌, ap, ap₂, append_assoc}
use Rattle.std.specs.Prelude.{Option, map, nat_lt}
use Rattle.std.proofs.lemmas.List.{map-append}
use Rattle.fs_model.proofs.Lists.{length_map, map_map}
use Rattle.fs_model.specs.declared.parts.VarInfo.{VarInfo}
use Rattle.fs_model.specs.Source.{Declaration, SourceState, Source}
use Rattle.fs_rules.specs.declared.check.CheckFault.{CheckFault}
use Rattle.fs_rules.specs.MachineOfParts.{declared_by, variables_of, names_of, state_names, place_or_end}
use Rattle.fs_rules.specs.Rules.{declared_names, declared_states}
use Rattle.fs_rules.specs.FirstFault.{earliest}
use Rattle.fs_rules.specs.Places.{declared_name_list}
use Rattle.fs_rules.specs.Scopes.{IsScopeOf}
use Rattle.fs_rules.proofs.FirstFaults.{earliest-append, earliest_three}

names_by : (d : Declaration) → declared_name_list (map (λ n. (d.line, n)) d.names) ≡ names_of (declared_by d)
names_by d = map_map (λ e. e.1) (λ n. (d.line, n)) d.names ∙ sym (map_map (λ v. v.name) (λ n. record { name = n; role = d.role; sort = d.sort }) d.names)

pub names_declared : (ds : List Declaration) → declared_name_list (declared_names ds) ≡ names_of (variables_of ds)
names_declared [] = refl
names_declared (d ∷ ds) =
    map-append (λ e. e.1) (map (λ n. (d.line, n)) d.names) (declared_names ds)
    ∙ ap₂ (λ (a b : List (List ℕ)). a ++ b) (names_by d) (names_declared ds)
    ∙ sym (map-append (λ v. v.name) (declared_by d) (variables_of ds))

pub names_of_declared : (ss : List SourceState) → declared_name_list (declared_states ss) ≡ state_names ss
names_of_declared ss = map_map (λ e. e.1) (λ s. (s.line, s.name)) ss

pub names_noted : (known one two : Option CheckFault) (a b c d : List CheckFault) → one ≡ earliest known (a ++ b) → two ≡ earliest one (c ++ d)
    → two ≡ earliest known (a ++ (b ++ (c ++ d)))
names_noted known one two a b c d e f =
    f ∙ ap (λ k. earliest k (c ++ d)) e ∙ sym (earliest-append known (a ++ b) (c ++ d)) ∙ ap (earliest known) (append_assoc a b (c ++ d))

all_joined : (a b c d r s : List CheckFault) → (a ++ (b ++ (c ++ d))) ++ (r ++ s) ≡ a ++ (b ++ (c ++ (d ++ (r ++ s))))
all_joined a b c d r s = simp append_assoc

pub plain_noted : (known one two three : Option CheckFault) (a b c d r s : List CheckFault) → one ≡ earliest known (a ++ (b ++ (c ++ d))) → two ≡ earliest one r
    → three ≡ earliest two s
    → three ≡ earliest known (a ++ (b ++ (c ++ (d ++ (r ++ s)))))
plain_noted known one two three a b c d r s e f g =
    g ∙ ap (λ k. earliest k s) (f ∙ ap (λ k. earliest k r) e) ∙ earliest_three known (a ++ (b ++ (c ++ d))) r s ∙ ap (earliest known) (all_joined a b c d r s)

pub reset_known : (p : Source) (vars : List VarInfo) (states : List SourceState) → IsScopeOf p vars states
    → nat_lt (place_or_end (state_names states) p.reset) (length (state_names states)) ≡ nat_lt (place_or_end (state_names p.states) p.reset) (length p.states)
reset_known p vars states s =
    ap (λ ss. nat_lt (place_or_end (state_names ss) p.reset) (length (state_names ss))) s.stated
    ∙ ap (nat_lt (place_or_end (state_names p.states) p.reset)) (length_map (λ x. x.name) p.states)
