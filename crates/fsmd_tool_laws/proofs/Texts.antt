-- A file is one thing: it spells one machine, or has one fault, or is too long.
use Rattle.std.proofs.Common.{◌≡◌, ℕ, ◌<◌, ◌≤◌, Bool, false, List, [], ◌∷◌, length, sym, ◌∙◌, ap, subst, ⊎_elim, arith, refl}
use Rattle.std.specs.Prelude.{◌&&◌, ◌||◌, ◌==◌, nat_lt}
use Rattle.std.specs.List.{slice_index_or}
use Rattle.std.proofs.lemmas.Bool.Decides.{nat_tests}
use Rattle.fs_model.proofs.Lists.{nothing_in_none}
use Rattle.fs_model.specs.Source.{Source}
use Rattle.fs_model.specs.Machines.{Fsmd}
use Rattle.fs_grammar.specs.declared.fault.TextFault.{TextFault}
use Rattle.fs_rules.specs.declared.check.CheckRule.{CheckRule}
use Rattle.fs_rules.specs.declared.check.CheckRule.TheVariants.{TwiceNamed, UnknownName, WrongSort, AssignInput, AssignedTwice, NoElse, AfterElse}
use Rattle.fs_rules.specs.declared.check.CheckRule.TheVariants.{TooManyBranches, EndlessLine, UnknownState, TooMany, TooManyEmits}
use Rattle.fs_rules.specs.declared.check.CheckFault.{CheckFault}
use Rattle.fs_rules.specs.MachineOfParts.{machine_of}
use Rattle.fs_rules.specs.Rules.{rule_rank, is_sooner, plain_faults, branch_faults, IsFirstBroken, BreaksNoRule}
use Rattle.fs_model.specs.Limits.{most_text_bytes}
use Rattle.fs_lex.proofs.Texts.{one_source, one_fault, spelled_text_never_stops}
use Rattle.fsmd_tool.specs.MachineFiles.{SpellsParts, SpellsMachine, IsTooLong, HasTextFault, HasCheckFault}

-- ---- the broken rule that is answered is one

abbrev lex : (a r b s : ℕ) → Bool
lex a r b s = nat_lt a b || (a == b && nat_lt r s)

lex_lines : (a r b s : ℕ) → lex a r b s ≡ false → lex b s a r ≡ false → a ≡ b
lex_lines a r b s e f = grind (arith, nat_tests)

lex_ranks : (a r b s : ℕ) → lex a r b s ≡ false → lex b s a r ≡ false → r ≡ s
lex_ranks a r b s e f = grind (arith, nat_tests)

-- the rule of a rank
abbrev rule_at : ℕ → CheckRule
rule_at n =
    slice_index_or
    (TooMany ∷ TwiceNamed ∷ UnknownName ∷ WrongSort ∷ AssignInput ∷ AssignedTwice ∷ NoElse ∷ AfterElse ∷ TooManyBranches ∷ EndlessLine ∷ UnknownState ∷ TooMany
    ∷ TooManyEmits ∷ []) n TooMany

rule_back : (r : CheckRule) → rule_at (rule_rank r) ≡ r
rule_back TwiceNamed = refl
rule_back UnknownName = refl
rule_back WrongSort = refl
rule_back AssignInput = refl
rule_back AssignedTwice = refl
rule_back NoElse = refl
rule_back AfterElse = refl
rule_back TooManyBranches = refl
rule_back EndlessLine = refl
rule_back UnknownState = refl
rule_back TooMany = refl
rule_back TooManyEmits = refl

rank_same : (r s : CheckRule) → rule_rank r ≡ rule_rank s → r ≡ s
rank_same r s e = sym (rule_back r) ∙ ap rule_at e ∙ rule_back s

fault_same : (f g : CheckFault) → f.rule ≡ g.rule → f.line ≡ g.line → f ≡ g
fault_same f g e h = λ i. record { rule = e i; line = h i }

pub first_broken_once : (p : Source) (f g : CheckFault) → IsFirstBroken p f → IsFirstBroken p g → f ≡ g
first_broken_once p f g s t =
    let e : is_sooner g f ≡ false = s.first g t.broken in
    let h : is_sooner f g ≡ false = t.first f s.broken in
    fault_same f g (rank_same f.rule g.rule (lex_ranks f.line (rule_rank f.rule) g.line (rule_rank g.rule) h e))
    (lex_lines f.line (rule_rank f.rule) g.line (rule_rank g.rule) h e)

pub lawful_unbroken : (p : Source) (f : CheckFault) → BreaksNoRule p → IsFirstBroken p f → ⊥
lawful_unbroken p f l b =
    ⊎_elim (λ c. nothing_in_none (plain_faults p) f l.plain c)
    (λ late. ⊎_elim (λ c. nothing_in_none (branch_faults p) f l.branches c) (λ e. l.ends f.line e.1) late.1) b.broken

-- ---- one machine, one fault, and not both

pub few_not_many : (n m : ℕ) → n ≤ m → m < n → ⊥
few_not_many n m h k = omega arith

pub spells_once : (bytes : List ℕ) (m n : Fsmd) → SpellsMachine m bytes → SpellsMachine n bytes → m ≡ n
spells_once bytes m n s t = s.machine ∙ ap machine_of (one_source bytes s.parts t.parts s.spells.spells t.spells.spells) ∙ sym t.machine

pub parts_once : (bytes : List ℕ) (p q : Source) → SpellsParts p bytes → SpellsParts q bytes → p ≡ q
parts_once bytes p q s t = one_source bytes p q s.spells t.spells

pub text_fault_once : (bytes : List ℕ) (f g : TextFault) → HasTextFault f bytes → HasTextFault g bytes → f ≡ g
text_fault_once bytes f g s t = one_fault bytes f g s.stops t.stops

pub check_fault_once : (bytes : List ℕ) (f g : CheckFault) → HasCheckFault f bytes → HasCheckFault g bytes → f ≡ g
check_fault_once bytes f g s t = first_broken_once t.parts f g
    (subst (λ p. IsFirstBroken p f) (one_source bytes s.parts t.parts s.spells t.spells) s.broken) t.broken

pub text_or_check : (bytes : List ℕ) (f : TextFault) (g : CheckFault) → HasTextFault f bytes → HasCheckFault g bytes → ⊥
text_or_check bytes f g s t = spelled_text_never_stops bytes t.parts f t.spells s.stops

pub spells_no_text_fault : (bytes : List ℕ) (m : Fsmd) (f : TextFault) → SpellsMachine m bytes → HasTextFault f bytes → ⊥
spells_no_text_fault bytes m f s t = spelled_text_never_stops bytes s.parts f s.spells.spells t.stops

pub spells_no_check_fault : (bytes : List ℕ) (m : Fsmd) (f : CheckFault) → SpellsMachine m bytes → HasCheckFault f bytes → ⊥
spells_no_check_fault bytes m f s t = lawful_unbroken t.parts f
    (subst BreaksNoRule (one_source bytes s.parts t.parts s.spells.spells t.spells) s.spells.lawful) t.broken

pub long_spells_none : (bytes : List ℕ) (m : Fsmd) → SpellsMachine m bytes → IsTooLong most_text_bytes bytes → ⊥
long_spells_none bytes m s long = few_not_many (length bytes) most_text_bytes s.spells.few long

pub long_no_text_fault : (bytes : List ℕ) (f : TextFault) → HasTextFault f bytes → IsTooLong most_text_bytes bytes → ⊥
long_no_text_fault bytes f s long = few_not_many (length bytes) most_text_bytes s.few long

pub long_no_check_fault : (bytes : List ℕ) (f : CheckFault) → HasCheckFault f bytes → IsTooLong most_text_bytes bytes → ⊥
long_no_check_fault bytes f s long = few_not_many (length bytes) most_text_bytes s.few long
