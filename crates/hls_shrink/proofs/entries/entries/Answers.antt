use Rattle.std.proofs.Common.{◌≡◌, ◌≤◌, true, false, length, ap, ◌∙◌, arith, rules}
use Rattle.std.specs.Option.{is_none}
use Rattle.fs_stores.specs.Values.{content_of}
use Rattle.fs_stores.specs.InputValues.{input_signatures}
use Rattle.fs_trials.proofs.Given.{few_inputs}
use Rattle.hls_shrink.specs.InputEntries.{contents_in}
use Rattle.hls_shrink.proofs.Changed.{as_many, none_left, some_left, content_there}
use Rattle.hls_shrink.proofs.Listed.{awaits_next, awaits_none}
use Rattle.hls_shrink.proofs.entries.entries.Goals as goal

pub returns-then-is_none : goal.returns-then-is_none
returns-then-is_none c =
    let ins = c.args.inputs.now in
    let gone : is_none c.sort.result ≡ true = search rules in
    awaits_none (contents_in ins) c.loop-k.k c.loop-k.list.items (none_left ins c.loop-k.k c.sort.result c.sort.ensures gone) c.loop-k.invariant

pub get-requires : goal.get-requires
get-requires c =
    let there : is_none c.sort.result ≡ false = search rules in
    some_left c.args.inputs.now c.loop-k.k c.sort.result c.sort.ensures there

pub loop-k-preserved : goal.loop-k-preserved
loop-k-preserved c =
    let ins = c.args.inputs.now in
    awaits_next (contents_in ins) c.loop-k.k (content_of c.get.result.now) c.loop-k.list.items c.add_entries.new.list.items
    (content_there ins c.loop-k.k c.get.result.now c.get.ensures) c.in_ok-add_entries.ensures c.loop-k.invariant

pub returns : goal.returns
returns c =
    let ins = c.args.inputs.now in
    let vs = c.args.m.now.variables in
    let few = few_inputs vs in
    let bound = ap length c.vars.ensures.vars in
    let count : length (contents_in ins) ≡ length (input_signatures vs) = as_many ins ∙ ap length c.requires in
    let all : length (contents_in ins) ≤ c.loop-k.k = omega arith in
    awaits_none (contents_in ins) c.loop-k.k c.loop-k.list.items all c.loop-k.invariant
