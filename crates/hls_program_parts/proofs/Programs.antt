-- A program and its machine do the same.
use Rattle.std.proofs.Common.{◌≡◌, ℕ, zero, suc, ◌+◌, ◌<◌, ◌≤◌, ◌^◌, List, [], ◌∷◌, length, ap, sym, refl, ◌∙◌, subst, arith, Option, lit<}
use Rattle.std.specs.List.{slice_index_or}
use Rattle.fs_model.specs.Expressions.{Transition}
use Rattle.fs_model.specs.Machines.{Fsmd, transitions_of}
use Rattle.fs_model.specs.Stores.{Store}
use Rattle.fs_model.specs.Meaning.{transition_taken, act_all}
use Rattle.fs_model.specs.Runs.{AfterStep, ReachesReset, Run, Inputs, Content, start}
use Rattle.fs_rules.specs.MachineOfParts.{variables_of, names_of, state_names, place_or_end, machine_of}
use Rattle.fs_model.specs.Limits.{most_states}
use Rattle.hls_program_parts.specs.Programs.{Block, Program}
use Rattle.hls_program_parts.specs.ProgramMeaning.{Does, ProgRun, DoesAs, numbered_body}
use Rattle.hls_program_parts.specs.Compiled.{count, first, always, states_of, state_name, numbered_states, entry_block, parts_of}
use Rattle.hls_program_parts.proofs.Laid.{Stands, Laid, up, down}
use Rattle.hls_program_parts.proofs.Numbers.{Row, no_row, spelled_row, Rows, spot, lies, lines_at, place_number, length_states, first_over}

module _ (p : Program) (few : count p.body < most_states) where
  abbrev m : Fsmd
  m = machine_of (parts_of p)

  abbrev vs : List (List ℕ)
  vs = names_of (variables_of p.declarations)

  abbrev begins : Row
  begins = entry_block p.body

  abbrev rows : List Row
  rows = states_of state_name p.body 1 0

  abbrev all : List Row
  all = begins ∷ rows

  abbrev ss : List (List ℕ)
  ss = state_names (numbered_states 0 all)

  abbrev at : ℕ → ℕ
  at = spot m vs ss

  length_all : length all ≡ suc (count p.body)
  length_all = ap suc (length_states state_name p.body 1 0)

  at_own : (n : ℕ) → n < length all → at n ≡ n
  at_own n h =
      let z : 0 + n ≡ n = omega arith in
      let top : most_states < 2 ^ 64 = lit< tt in
      ap (λ j. place_or_end ss (state_name j)) (sym z) ∙ place_number 0 all n h (omega (arith, h, length_all, few, top))

  has_lines : (n : ℕ) → n < length all → transitions_of m (at n) ≡ spelled_row vs ss (slice_index_or all n no_row)
  has_lines n h = ap (transitions_of m) (at_own n h) ∙ lines_at vs ss 0 all n (record { name = []; transitions = [] }) h

  stands : (n : ℕ) → 1 ≤ n → n < length all → Stands m at n (spelled_row vs ss (slice_index_or all n no_row))
  stands n h i = record { inner = λ e. omega (arith, h, e, at_own n i, at_own 0 (omega arith)); has = has_lines n i }

  rows_from : (n : ℕ) (xs : List Row) → 1 ≤ n → n + length xs ≡ length all
      → ((i : ℕ) → i < length xs → slice_index_or all (n + i) no_row ≡ slice_index_or xs i no_row) → Rows m at vs ss n xs
  rows_from n [] h e same = tt
  rows_from n (x ∷ xs) h e same =
      let here : slice_index_or all n no_row ≡ x = ap (λ j. slice_index_or all j no_row) (omega arith) ∙ same 0 (omega arith) in (
        subst (λ r. Stands m at n (spelled_row vs ss r)) here (stands n h (omega (arith, e))),
        rows_from (suc n) xs (omega arith) (omega (arith, e)) (λ i k. ap (λ j. slice_index_or all j no_row) (omega arith) ∙ same (suc i) (omega (arith, k))),
      )

  laid : Laid m at (numbered_body p) 1 0
  laid =
      lies m vs ss p.body 1 0
      (rows_from 1 rows (omega arith) (omega arith) (λ i k. let e : 1 + i ≡ suc i = omega arith in ap (λ j. slice_index_or all j no_row) e))

  first_lines : transitions_of m m.reset ≡ always (at (first (numbered_body p) 1 0)) [] ∷ []
  first_lines = rw (first_over (place_or_end vs) p.body 1 0) (has_lines 0 (omega arith))

  pub program_runs : (ins : Inputs) (outs : List ℕ → Option Content) → ProgRun p ins outs → (n : ℕ) × Run m ins outs n
  program_runs ins outs r =
      let s = start m ins in
      let f = up m at r.does 1 0 laid r.last (record { steps = 0; returns = (refl, refl) }) in (
        suc f.steps,
        record {
          end = r.last;
          goes = record {
            state = at (first (numbered_body p) 1 0);
            store = s;
            step = record {
              transition = always (at (first (numbered_body p) 1 0)) [];
              taken = ap (λ (k : List (Transition ℕ ℕ)). transition_taken k s) first_lines;
              target = refl;
              store = refl;
            };
            after = f.returns;
          };
          gives = r.gives;
        },
      )

  finished : (b : Block ℕ) (s t e : Store) (left : ℕ) → Does b s t → ReachesReset m left (at 0) t e → Does b s e
  finished b s t e zero d r = subst (λ (u : Store). Does b s u) r.1 d
  finished b s t e (suc left) d r = absurd (r.0 refl)

  pub machine_runs : (ins : Inputs) (outs : List ℕ → Option Content) (n : ℕ) → Run m ins outs n → ProgRun p ins outs
  machine_runs ins outs zero r = absurd r.goes
  machine_runs ins outs (suc n) r =
      let s = start m ins in
      let l : Transition ℕ ℕ = always (at (first (numbered_body p) 1 0)) [] in
      let w : AfterStep m m.reset s (λ q u. ReachesReset m n q u r.end) = r.goes in
      let same : w.step.transition ≡ l = cc (sym w.step.taken ∙ ap (λ (k : List (Transition ℕ ℕ)). transition_taken k s) first_lines) in
      let to : w.state ≡ l.target = w.step.target ∙ ap (λ (k : Transition ℕ ℕ). k.target) same in
      let by : w.store ≡ s = w.step.store ∙ ap (λ (k : Transition ℕ ℕ). act_all k.assignments s s) same in
      let rest : ReachesReset m n l.target s r.end = subst (λ (u : Store). ReachesReset m n l.target u r.end) by
      (subst (λ (q : ℕ). ReachesReset m n q w.store r.end) to w.after) in
      let d = down m at n (numbered_body p) 1 0 laid s r.end n (omega arith) rest in
      record { last = r.end; does = finished (numbered_body p) s d.store r.end d.left d.does d.returns; gives = r.gives }

  pub does_as : DoesAs p m
  does_as = record { forth = machine_runs; back = program_runs }
