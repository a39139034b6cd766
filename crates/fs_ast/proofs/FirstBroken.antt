-- The broken rule that is answered is broken, and none comes before it.
use Rattle.std.proofs.Common.{◌≡◌, ℕ, zero, suc, ◌<◌, Bool, true, false, cond, List, [], ◌∷◌, ◌++◌, length, refl, sym, ◌∙◌, ap, inl, inr, ⊎_elim, arith}
use Rattle.std.specs.Prelude.{◌⊎◌, ◌&&◌, ◌||◌, ◌==◌, nat_lt, Option, Some, None, map, slice_get, Contains}
use Rattle.std.specs.List.{flat_map, slice_index_or}
use Rattle.std.specs.Option.{option_to_list}
use Rattle.std.proofs.lemmas.Bool.Decides.{nat_tests}
use Rattle.std.proofs.lemmas.Option.{slice_get_within, slice_get-get_or, same_Some}
use Rattle.std.proofs.lemmas.Bool.{false_from_ne_true}
use Rattle.fs_model.proofs.Lists.{nothing_in_none, slice_get-front, slice_get-of_map, length_map, map_map}
use Rattle.fs_model.specs.Source.{SourceState, Source}
use Rattle.fs_model.specs.Machines.{State, Fsmd, transitions_of}
use Rattle.fs_rules.specs.declared.check.CheckRule.TheVariants.{EndlessLine}
use Rattle.fs_rules.specs.declared.check.CheckFault.{CheckFault}
use Rattle.fs_rules.specs.MachineOfParts.{names_of, variables_of, state_names, place_or_end, machine_of}
use Rattle.fs_model.specs.SoundMachines.{first_transition_target, is_cutpoint}
use Rattle.fs_rules.specs.Rules.{rule_rank, is_sooner, plain_faults, branch_faults, after_steps, IsEndless, IsFirstBroken}
use Rattle.fs_rules.specs.FirstFault.{earliest}
use Rattle.fs_branches.specs.NumberedParts.{spelled_state_with_line, states_with_lines}
use Rattle.fs_ast.specs.Shapes.{skeleton, forked_faults, endless_faults, IsFirstOfShapes}
use Rattle.fs_rules.proofs.FirstFaults.{earliest-append}
use Rattle.fs_rules.proofs.Rounds.{get_back, get_either}
use Rattle.fs_ast.proofs.Kept.{get_mapped, no_state, forks_at_cutpoint, passes_no_cutpoint}
use Rattle.fs_ast.proofs.Whole.{placed_states, forked_is, cut_same}

-- ---- the order of broken rules

abbrev lex : (a r b s : ℕ) → Bool
lex a r b s = nat_lt a b || (a == b && nat_lt r s)

lex_self : (a r : ℕ) → lex a r a r ≡ false
lex_self a r = grind (arith, nat_tests)

lex_over : (a r b s c t : ℕ) → lex a r b s ≡ true → lex b s c t ≡ true → lex a r c t ≡ true
lex_over a r b s c t e f = grind (arith, nat_tests)

lex_under : (a r b s c t : ℕ) → lex a r b s ≡ false → lex a r c t ≡ true → lex b s c t ≡ true
lex_under a r b s c t e f = grind (arith, nat_tests)

not_itself : (f : CheckFault) → is_sooner f f ≡ false
not_itself f = lex_self f.line (rule_rank f.rule)

-- one that comes after a sooner one
after_sooner : (h g f : CheckFault) → is_sooner h g ≡ true → is_sooner h f ≡ false → is_sooner g f ≡ false
after_sooner h g f e n = false_from_ne_true (is_sooner g f)
    (λ t. let o = lex_over h.line (rule_rank h.rule) g.line (rule_rank g.rule) f.line (rule_rank f.rule) e t in cc)

after_other : (h x f : CheckFault) → is_sooner h x ≡ false → is_sooner x f ≡ false → is_sooner h f ≡ false
after_other h x f e n = false_from_ne_true (is_sooner h f)
    (λ t. let o = lex_under h.line (rule_rank h.rule) x.line (rule_rank x.rule) f.line (rule_rank f.rule) e t in cc)

-- ---- the earliest

pub record IsEarliest (known : Option CheckFault) (fs : List CheckFault) (f : CheckFault) : Type 0 where
  pub from : (known ≡ Some f) ⊎ ((k : ℕ) × (slice_get fs k ≡ Some f))
  pub known_later : (g : CheckFault) → known ≡ Some g → is_sooner g f ≡ false
  pub later : (k : ℕ) (g : CheckFault) → slice_get fs k ≡ Some g → is_sooner g f ≡ false

picked : (b : Bool) (x h f : CheckFault) → Path (Option CheckFault) (Some (cond b h x)) (Some f) → (x ≡ f) ⊎ (h ≡ f)
picked true x h f e = inr (cc)
picked false x h f e = inl (cc)

known_after : (b : Bool) (x h f : CheckFault) → is_sooner h x ≡ b → is_sooner (cond b h x) f ≡ false → is_sooner x f ≡ false
known_after true x h f e n = after_sooner h x f e n
known_after false x h f e n = n

head_after : (b : Bool) (x h f : CheckFault) → is_sooner h x ≡ b → is_sooner (cond b h x) f ≡ false → is_sooner h f ≡ false
head_after true x h f e n = n
head_after false x h f e n = after_other h x f e n

later_head : (h : CheckFault) (fs : List CheckFault) (f : CheckFault) → is_sooner h f ≡ false
    → ((k : ℕ) (g : CheckFault) → slice_get fs k ≡ Some g → is_sooner g f ≡ false)
    → (k : ℕ) (g : CheckFault) → slice_get (h ∷ fs) k ≡ Some g → is_sooner g f ≡ false
later_head h fs f n rest zero g at = let same : h ≡ g = cc in ap (λ x. is_sooner x f) (sym same) ∙ n
later_head h fs f n rest (suc k) g at = rest k g at

pub earliest_is : (known : Option CheckFault) (fs : List CheckFault) (f : CheckFault) → earliest known fs ≡ Some f → IsEarliest known fs f
earliest_is known [] f e = record {
  from = inl e;
  known_later = λ g at. let same : g ≡ f = cc in ap (λ x. is_sooner x f) same ∙ not_itself f;
  later = λ k g at. absurd (cc);
}
earliest_is None (h ∷ fs) f e =
    let r = earliest_is (Some h) fs f e in
    record {
      from = ⊎_elim (λ at. inr (zero, at)) (λ at. inr (suc at.0, at.1)) r.from;
      known_later = λ g at. absurd (cc);
      later = later_head h fs f (r.known_later h refl) r.later;
    }
earliest_is (Some x) (h ∷ fs) f e =
    let r = earliest_is (Some (cond (is_sooner h x) h x)) fs f e in
    let n = r.known_later (cond (is_sooner h x) h x) refl in
    record {
      from = ⊎_elim (λ at. ⊎_elim (λ is. inl (ap Some is)) (λ is. inr (zero, ap Some is)) (picked (is_sooner h x) x h f at))
          (λ at. inr (suc at.0, at.1)) r.from;
      known_later = λ g at. let same : x ≡ g = cc in ap (λ y. is_sooner y f) (sym same) ∙ known_after (is_sooner h x) x h f refl n;
      later = later_head h fs f (head_after (is_sooner h x) x h f refl n) r.later;
    }

-- ---- members

contains_of : {A : Type 0} (xs : List A) (k : ℕ) (x : A) → slice_get xs k ≡ Some x → Contains xs x
contains_of xs k x e =
    let h = slice_get_within xs k x e in
    (k, h, same_Some (slice_index_or xs k x) x (sym (slice_get-get_or xs k x h) ∙ e))

of_contains : {A : Type 0} (xs : List A) (x : A) → Contains xs x → (k : ℕ) × (slice_get xs k ≡ Some x)
of_contains xs x c = (c.0, slice_get-get_or xs c.0 x c.1 ∙ ap Some c.2)

-- the lines of the places of a list
line_in : (o : Option ℕ) (rest : List ℕ) (j n : ℕ) → slice_get (option_to_list o ++ rest) j ≡ Some n → (o ≡ Some n) ⊎ ((i : ℕ) × (slice_get rest i ≡ Some n))
line_in None rest j n e = inr (j, e)
line_in (Some x) rest zero n e = inl e
line_in (Some x) rest (suc j) n e = inr (j, e)

lines_from : (lines qs : List ℕ) (j n : ℕ) → slice_get (flat_map (λ q. option_to_list (slice_get lines q)) qs) j ≡ Some n
    → (q : ℕ) × ((i : ℕ) × ((slice_get qs i ≡ Some q) × (slice_get lines q ≡ Some n)))
lines_from lines [] j n e = absurd (cc)
lines_from lines (q ∷ qs) j n e =
    ⊎_elim (λ at. (q, (zero, (refl, at)))) (λ at. let r = lines_from lines qs at.0 n at.1 in (r.0, (suc r.1.0, (r.1.1.0, r.1.1.1))))
    (line_in (slice_get lines q) (flat_map (λ k. option_to_list (slice_get lines k)) qs) j n e)

line_put : (o : Option ℕ) (rest : List ℕ) (n : ℕ) → o ≡ Some n → (j : ℕ) × (slice_get (option_to_list o ++ rest) j ≡ Some n)
line_put None rest n e = absurd (cc)
line_put (Some x) rest n e = (zero, e)

lines_to : (lines qs : List ℕ) (i q n : ℕ) → slice_get qs i ≡ Some q → slice_get lines q ≡ Some n
    → (j : ℕ) × (slice_get (flat_map (λ k. option_to_list (slice_get lines k)) qs) j ≡ Some n)
lines_to lines [] i q n e at = absurd (cc)
lines_to lines (p ∷ qs) zero q n e at = let same : p ≡ q = cc in
    line_put (slice_get lines p) (flat_map (λ k. option_to_list (slice_get lines k)) qs) n (ap (slice_get lines) same ∙ at)
lines_to lines (p ∷ qs) (suc i) q n e at = let r = lines_to lines qs i q n e at in
    get_back (option_to_list (slice_get lines p)) (flat_map (λ k. option_to_list (slice_get lines k)) qs) r.0 n r.1

-- ---- endless lines of machines with the same states

steps_alike : (m n : Fsmd) → m.states ≡ n.states → (k q : ℕ) → after_steps m k q ≡ after_steps n k q
steps_alike m n e zero q = refl
steps_alike m n e (suc k) q = steps_alike m n e k (first_transition_target (transitions_of m q))
    ∙ ap (λ st. after_steps n k (first_transition_target (slice_index_or st q no_state).transitions)) e

endless_alike : (m n : Fsmd) → m.states ≡ n.states → m.reset ≡ n.reset → (q : ℕ) → IsEndless m q → IsEndless n q
endless_alike m n e f q r = record {
  steps = r.steps;
  some = r.some;
  back = sym (steps_alike m n e r.steps q) ∙ r.back;
  uncut = λ k. forks_at_cutpoint n (after_steps n k q) ∙ ap (is_cutpoint n) (sym (steps_alike m n e k q))
      ∙ sym (cut_same m n e f (after_steps m k q)) ∙ passes_no_cutpoint m q r k;
}

-- ---- the answer

pub plain_first : (p : Source) (f : CheckFault) → earliest None (plain_faults p) ≡ Some f → IsFirstBroken p f
plain_first p f e =
    let r = earliest_is None (plain_faults p) f e in
    let at : (k : ℕ) × (slice_get (plain_faults p) k ≡ Some f) = ⊎_elim (λ n. absurd (cc)) (λ s. s) r.from in
    let here = contains_of (plain_faults p) at.0 f at.1 in
    record {
      broken = inl here;
      first = λ g b. ⊎_elim (λ c. let k = of_contains (plain_faults p) g c in r.later k.0 g k.1)
          (λ late. absurd (nothing_in_none (plain_faults p) f late.0 here)) b;
    }

lines_are : (p : Source) → map (λ s. s.0) (states_with_lines p) ≡ map (λ s. s.line) p.states
lines_are p = map_map (λ s. s.0) (spelled_state_with_line (names_of (variables_of p.declarations)) (state_names p.states)) p.states

pub shapes_first : (p : Source) (ss : List (ℕ × State)) (reset : ℕ) (first : Option CheckFault) (f : CheckFault) → plain_faults p ≡ []
    → ss ≡ states_with_lines p
    → reset ≡ place_or_end (state_names p.states) p.reset → first ≡ Some f → IsFirstOfShapes ss reset first
    → IsFirstBroken p f
shapes_first p ss reset first f plain same at_reset some late =
    let a = forked_faults ss in
    let lines = map (λ (s : ℕ × State). s.0) ss in
    let places = flat_map (λ q. option_to_list (slice_get lines q)) late.endless in
    let b = endless_faults ss late.endless in
    let r = earliest_is None (a ++ b) f (earliest-append None a b ∙ sym late.is_first ∙ some) in
    let lines_same : lines ≡ map (λ s. s.line) p.states = ap (λ l. map (λ s. s.0) l) same ∙ lines_are p in
    let states_same : (skeleton ss reset).states ≡ (machine_of p).states = ap (λ l. map (λ s. s.1) l) same ∙ placed_states p in
    let forked_same : a ≡ branch_faults p = ap forked_faults same ∙ forked_is p in
    let count : length ss ≡ length p.states = ap length same
    ∙ length_map (spelled_state_with_line (names_of (variables_of p.declarations)) (state_names p.states)) p.states in
    let at : (k : ℕ) × (slice_get (a ++ b) k ≡ Some f) = ⊎_elim (λ n. absurd (cc)) (λ s. s) r.from in
    record {
      broken = inr (
        plain,
        ⊎_elim (λ l. inl (contains_of (branch_faults p) l.0 f (ap (λ x. slice_get x l.0) (sym forked_same) ∙ l.1)))
            (λ e.
            let g = get_mapped (λ n. record { rule = EndlessLine; line = n }) places e.0 f e.1 in
            let q = lines_from lines late.endless e.0 g.0 g.1.0 in
            let s = get_mapped (λ (x : SourceState). x.line) p.states q.0 g.0 (ap (λ x. slice_get x q.0) (sym lines_same) ∙ q.1.1.1) in
            let loop = endless_alike (skeleton ss reset) (machine_of p) states_same at_reset q.0 (late.rounds q.1.0 q.0 q.1.1.0) in
            let line : f.line ≡ g.0 = ap (λ x. x.line) g.1.1 in
            inr (ap (λ x. x.rule) g.1.1, record { place = q.0; state = s.0; is_there = s.1.0; line = line ∙ s.1.1; endless = loop }))
            (get_either a b at.0 f at.1),
      );
      first = λ g c.
          ⊎_elim (λ d. absurd (nothing_in_none (plain_faults p) g plain d))
          (λ d.
          ⊎_elim
          (λ l. let k = of_contains (branch_faults p) g l in let t : slice_get a k.0 ≡ Some g = ap (λ x. slice_get x k.0) forked_same ∙ k.1 in
          r.later k.0 g (slice_get-front a b k.0 g t))
          (λ e.
          let x = e.1 in
          let low : x.place < length p.states = slice_get_within p.states x.place x.state x.is_there in
          let inside : x.place < length ss = omega arith in
          let k = late.all x.place inside (endless_alike (machine_of p) (skeleton ss reset) (sym states_same) (sym at_reset) x.place x.endless) in
          let line : slice_get lines x.place ≡ Some g.line = ap (λ l. slice_get l x.place) lines_same
          ∙ slice_get-of_map (λ s. s.line) p.states x.place x.state x.is_there ∙ ap Some (sym x.line) in
          let j = lines_to lines late.endless k.0 x.place g.line k.1 line in
          let own : Path CheckFault (record { rule = EndlessLine; line = g.line }) g = λ i. record { rule = sym e.0 i; line = g.line } in
          let t : slice_get b j.0 ≡ Some g = slice_get-of_map (λ n. record { rule = EndlessLine; line = n }) places j.0 g.line j.1 ∙ ap Some own in
          let whole = get_back a b j.0 g t in
          r.later whole.0 g whole.1)
          d.1)
          c;
    }
