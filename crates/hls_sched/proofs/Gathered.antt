-- What is gathered of the items of a block, and its plan.
use Rattle.std.proofs.Common.{◌≡◌, ℕ, zero, suc, ◌<◌, ◌≤◌, List, [], ◌∷◌, length, take, map, sym, ap, ◌∙◌, subst, arith, true, Some}
use Rattle.std.specs.Prelude.{slice_get}
use Rattle.std.specs.List.{slice_index_or}
use Rattle.std.proofs.lemmas.List.{take_all}
use Rattle.fs_model.proofs.Lists.{length_map, map_map}
use Rattle.fs_model.specs.declared.parts.StateId.{StateId}
use Rattle.fs_model.specs.Machines.{Fsmd}
use Rattle.fs_model.specs.SoundMachines.{IsSound}
use Rattle.hls_unit_counts.specs.declared.units.Unit.{Unit as Kind}
use Rattle.hls_unit_counts.specs.declared.units.Unit.TheVariants.{Add}
use Rattle.hls_block_filling.specs.Items.{Item}
use Rattle.hls_block_filling.specs.BasicBlocks.{is_first_of_block, firsts, basic_block_at, item_of, items_at}
use Rattle.hls_block_filling.specs.ItemUnits.{Units, used_by}
use Rattle.hls_block_filling.specs.Heights.{chain_of}
use Rattle.hls_block_filling.specs.Filling.{Filled, graph_of, filling_of, is_before, IsFilled}
use Rattle.hls_block_filling.proofs.Placings.{is_filled}
use Rattle.hls_block_filling.specs.Schedules.{IsWithin, rows_by}
use Rattle.hls_block_filling.proofs.Schedules.{each_fits, rows_count}
use Rattle.hls_block_filling.specs.declared.effects.Effects.{Effects}
use Rattle.hls_block_filling.specs.declared.uses.Uses.{Uses}
use Rattle.hls_block_filling.specs.declared.plan.Plan.{Plan}
use Rattle.hls_block_filling.specs.EffectSets.{sets_of, sets_from, none_changed}
use Rattle.hls_block_filling.specs.Profiles.{units_of_uses, capped_count}
use Rattle.hls_block_filling.specs.Plans.{filled_in}
use Rattle.hls_block_filling.specs.Counted.{AreCounted}
use Rattle.hls_sched.specs.RowMoves.{IsPlanFor}
use Rattle.hls_sched.specs.Reports.{Report, report_at, reports}

by_index : {A C : Type 0} (f : A → C) (g : Item → C) (xs : List A) (items : List Item) (i : ℕ) (x : A) → map f xs ≡ map g items → slice_get xs i ≡ Some x
    → f x ≡ g (slice_index_or items i [])
by_index f g [] items i x e h = absurd (cc h)
by_index f g (y ∷ ys) [] i x e h = absurd (cc e)
by_index f g (y ∷ ys) (a ∷ items) zero x e h = let same : y ≡ x = cc h in ap f (sym same) ∙ cc e
by_index f g (y ∷ ys) (a ∷ items) (suc i) x e h = by_index f g ys items i x (cc e) h

of_items : {C : Type 0} (m : Fsmd) (g : Item → C) (q : ℕ) (states : List StateId) → map (λ (s : StateId). s.0) states ≡ basic_block_at m q
    → map (λ (s : StateId). g (item_of m s.0)) states ≡ map g (items_at m q)
of_items m g q states e =
    sym (map_map (λ (i : ℕ). g (item_of m i)) (λ (s : StateId). s.0) states)
    ∙ ap (map (λ (i : ℕ). g (item_of m i))) e
    ∙ sym (map_map g (item_of m) (basic_block_at m q))

pub count_items : (m : Fsmd) (q : ℕ) (states : List StateId) → map (λ (s : StateId). s.0) states ≡ basic_block_at m q → length (items_at m q) ≡ length states
count_items m q states e = length_map (item_of m) (basic_block_at m q) ∙ ap length (sym e) ∙ length_map (λ (s : StateId). s.0) states

-- the effects and the uses of the items of a block
pub are_counted : (m : Fsmd) (q : ℕ) (states first second : List StateId) (es effects : List Effects) (us uses : List Uses)
    → map (λ (s : StateId). s.0) states ≡ basic_block_at m q → first ≡ states → second ≡ states → es ≡ effects → us ≡ uses
    → map sets_of effects ≡ map (λ (s : StateId). sets_from (item_of m s.0) none_changed) first
    → ((kind : Kind) → map (λ (u : Uses). units_of_uses u kind) uses ≡ map (λ (s : StateId). capped_count (used_by (item_of m s.0) kind)) second)
    → AreCounted es us (items_at m q)
are_counted m q states first second es effects us uses block same_first same_second same_effects same_uses e f =
    let sets : map sets_of es ≡ map (λ (a : Item). sets_from a none_changed) (items_at m q) =
    ap (map sets_of) same_effects ∙ e ∙ ap (map (λ (s : StateId). sets_from (item_of m s.0) none_changed)) same_first
    ∙ of_items m (λ (a : Item). sets_from a none_changed) q states block in
    let counts : (kind : Kind) → map (λ (u : Uses). units_of_uses u kind) us ≡ map (λ (a : Item). capped_count (used_by a kind)) (items_at m q) =
    λ kind. ap (map (λ (u : Uses). units_of_uses u kind)) same_uses ∙ f kind
    ∙ ap (map (λ (s : StateId). capped_count (used_by (item_of m s.0) kind))) same_second
    ∙ of_items m (λ (a : Item). capped_count (used_by a kind)) q states block in
    record {
      count = sym (length_map sets_of es) ∙ ap length sets ∙ length_map (λ (a : Item). sets_from a none_changed) (items_at m q);
      same = sym (length_map (λ (u : Uses). units_of_uses u Add) us) ∙ ap length (counts Add)
          ∙ length_map (λ (a : Item). capped_count (used_by a Add)) (items_at m q);
      effects = λ i x h. by_index sets_of (λ (a : Item). sets_from a none_changed) es (items_at m q) i x sets h;
      uses = λ i u kind h. by_index (λ (x : Uses). units_of_uses x kind) (λ (a : Item). capped_count (used_by a kind)) us (items_at m q) i u (counts kind) h;
    }

-- a plan of a block places each item
pub plan_for : (m : Fsmd) (units : Units) (q count : ℕ) (p : Plan) → IsSound m → IsWithin units m → q < length m.states → is_first_of_block m q ≡ true
    → filled_in p ≡ filling_of (graph_of (items_at m q)) units → length p.rows.items ≡ count → length (items_at m q) ≡ count → IsPlanFor count p
plan_for m units q count p sound within low first e all same =
    let f : Filled = filling_of (graph_of (items_at m q)) units in
    let w : IsFilled (graph_of (items_at m q)) units f = is_filled (graph_of (items_at m q)) units (each_fits m units sound within q low first) in
    let rows : p.count ≡ f.count = ap (λ (z : Filled). z.count) e in
    record {
      items = all;
      placed = λ j h. subst (λ (z : Filled). is_before z.count (z.rows j) ≡ true) (sym e) (w.placed j (omega (arith, h, same)));
      no_more = omega (arith, rows, w.no_more, same);
    }

-- what is told of a block
abbrev pub made_report : (first before after chain : ℕ) → Report
made_report first before after chain = record { first = first; before = before; after = after; chain = chain }

pub report_is : (m : Fsmd) (units : Units) (q before : ℕ) (states : List StateId) (p : Plan) → IsSound m → IsWithin units m → before ≡ length states
    → map (λ (s : StateId). s.0) states ≡ basic_block_at m q → filled_in p ≡ filling_of (graph_of (items_at m q)) units → p.chain ≡ chain_of (items_at m q)
    → made_report q before p.count p.chain ≡ report_at units m q
report_is m units q before states p sound within all block e chain =
    let rows : p.count ≡ length (rows_by units m q) = ap (λ (z : Filled). z.count) e ∙ sym (rows_count m units sound within q) in
    let count : before ≡ length (basic_block_at m q) = all ∙ sym (length_map (λ (s : StateId). s.0) states) ∙ ap length block in
    ap (λ b. made_report q b p.count p.chain) count ∙ ap (λ a. made_report q (length (basic_block_at m q)) a p.chain) rows
    ∙ ap (made_report q (length (basic_block_at m q)) (length (rows_by units m q))) chain

-- the reports of all blocks
pub reports_end : (units : Units) (m : Fsmd) (starts : List StateId) (i : ℕ) (out : List Report) → length starts ≤ i
    → map (λ (s : StateId). s.0) starts ≡ firsts m → out ≡ map (λ (s : StateId). report_at units m s.0) (take i starts) → out ≡ reports units m
reports_end units m starts i out h block e =
    e ∙ ap (map (λ (s : StateId). report_at units m s.0)) (take_all i starts h) ∙ sym (map_map (report_at units m) (λ (s : StateId). s.0) starts)
    ∙ ap (map (report_at units m)) block
