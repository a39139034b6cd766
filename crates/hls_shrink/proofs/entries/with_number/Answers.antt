use Rattle.std.proofs.Common.{◌≡◌, true, false, sym, ◌∙◌, ap, rules}
use Rattle.std.specs.Prelude.{Some, option_map, slice_get}
use Rattle.std.specs.Option.{is_none}
use Rattle.fs_stores.specs.Values.{content_of}
use Rattle.fs_stores.specs.InputValues.{Signature, input_values}
use Rattle.hls_shrink.specs.InputEntries.{contents_in}
use Rattle.hls_shrink.specs.Reductions.{with_number_at}
use Rattle.hls_shrink.proofs.Changed.{serve_own, none_left, some_left, content_there, sort_there, changed_past, changed_is}
use Rattle.hls_shrink.proofs.entries.with_number.Goals as goal

pub returns-then-is_none-clause-serves : goal.returns-then-is_none-clause-serves
returns-then-is_none-clause-serves c = serve_own c.args.m.now c.in_ok-copy.copy c.vars-vars.ensures.sound (c.in_ok-copy.ensures.signatures ∙ c.requires)

pub returns-then-is_none-clause-contents : goal.returns-then-is_none-clause-contents
returns-then-is_none-clause-contents c =
    let ins = c.args.inputs.now in
    let e = c.args.entry.now in
    let gone : is_none c.sort.result ≡ true = search rules in
    c.in_ok-copy.ensures.contents
    ∙ sym (changed_past (contents_in ins) e.input e.index c.args.number.now (none_left ins e.input c.sort.result c.sort.ensures gone))

pub get-requires : goal.get-requires
get-requires c =
    let there : is_none c.sort.result ≡ false = search rules in
    some_left c.args.inputs.now c.args.entry.now.input c.sort.result c.sort.ensures there

pub set-requires : goal.set-requires
set-requires c =
    let ins = c.args.inputs.now in
    let k = c.args.entry.now.input in
    ap (λ fs. option_map (λ (f : Signature). f.1) (slice_get fs k)) c.in_ok-copy.ensures.signatures ∙ sort_there ins k c.get.result.now c.get.ensures
    ∙ ap Some (sym c.in_ok-value.ensures.sort)

pub returns-clause-contents : goal.returns-clause-contents
returns-clause-contents c =
    let ins = c.args.inputs.now in
    let copy = c.in_ok-copy.copy in
    let e = c.args.entry.now in
    let n = c.args.number.now in
    let there : slice_get (contents_in copy) e.input ≡ Some (content_of c.get.result.now) = ap (λ cs. slice_get cs e.input) c.in_ok-copy.ensures.contents
    ∙ content_there ins e.input c.get.result.now c.get.ensures in
    changed_is (input_values copy) (input_values c.set.new.self) e.input c.in_ok-value.value
    (content_of c.get.result.now) e.index n there c.in_ok-value.ensures.content c.in_ok-set.ensures.values
    ∙ ap (λ cs. with_number_at cs e.input e.index n) c.in_ok-copy.ensures.contents

pub returns-clause-serves : goal.returns-clause-serves
returns-clause-serves c = serve_own c.args.m.now c.set.new.self c.vars-vars.ensures.sound
    (c.set.ensures.signatures ∙ c.in_ok-copy.ensures.signatures ∙ c.requires)
