use Rattle.std.proofs.Common.{◌∙◌, ap, ap₂, cond, None}
use Rattle.fs_model.proofs.Lists.{slice_get-of_map}
use Rattle.fs_pair.specs.PairedOutputs.{output_pairs}
use Rattle.sym_facts.specs.Facts.{vector_of}
use Rattle.search_tables.specs.Legal.{first_differing}
use Rattle.search_places.specs.NodeRecords.{NodeRecord, node_records}
use Rattle.search_places.specs.View.{node_record_in}
use Rattle.search_worklist.proofs.Legal.{if_ok}
use Rattle.search_worklist.proofs.outputs.output_at.Goals as goal

pub returns-then-not-is_end : goal.returns-then-not-is_end
returns-then-not-is_end c =
    let l = node_record_in c.node_at-node.result in
    let m = c.args.m.now in
    record {
      node = l.node;
      is_in = slice_get-of_map (λ (z : NodeRecord). z.node) (node_records c.args.entries.now.entries) c.args.number l c.node_at-node.ensures;
      differs = ap (λ b. cond b (first_differing (vector_of l.node.fact.positions) (output_pairs 0 m.left.now.variables m.right.now.variables)) None)
          c.if-not-is_end.ensures;
    }

pub returns : goal.returns
returns c =
    let l = node_record_in c.node_at-node.result in
    let m = c.args.m.now in
    let v = vector_of l.node.fact.positions in
    if_ok c.first_differing.result (λ o h. record {
      node = l.node;
      is_in = slice_get-of_map (λ (z : NodeRecord). z.node) (node_records c.args.entries.now.entries) c.args.number l c.node_at-node.ensures;
      differs = h ∙ ap (λ u. first_differing u (output_pairs 0 c.vars.result.now c.vars-2.result.now)) c.in_ok-v.ensures
          ∙ ap₂ (λ ls rs. first_differing v (output_pairs 0 ls rs)) c.vars.ensures.vars c.vars-2.ensures.vars
          ∙ ap (λ b. cond b (first_differing v (output_pairs 0 m.left.now.variables m.right.now.variables)) None) c.if-not-is_end.ensures;
    }) c.first_differing.ensures
