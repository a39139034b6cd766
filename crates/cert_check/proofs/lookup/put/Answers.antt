use Rattle.std.proofs.Common.{◌≡◌, ◌++◌, ◌∷◌, [], map, ap, sym, ◌∙◌, cond, Some, None}
use Rattle.std.proofs.lemmas.List.{map-append}
use Rattle.std.specs.Map.{lookup}
use Rattle.std.specs.Option.{option_map_or}
use Rattle.cert_model.specs.PointKeys.{same_key}
use Rattle.cert_model.specs.View.{node_of}
use Rattle.cert_check.specs.Listing.{referred}
use Rattle.cert_check.proofs.Keyed.{put_behind}
use Rattle.cert_check.proofs.lookup.put.Goals as goal
use Rattle.cert_check.proofs.lookup.put.Goals.{in-Some, in-None}

pub returns : goal.returns
returns c =
    let key = c.key_of-key.ensures in
    let old = c.args.by_points.now.entries in
    let taken = c.swap_remove.new.self.entries in
    let behind : referred c.match-swap_remove.nodes ≡ option_map_or referred c.swap_remove.result [] =
    elim c.match-swap_remove.branch [
      | in-Some w ↦ ap referred w.nodes-is ∙ sym (ap (λ o. option_map_or referred o []) w.in-Some.is)
      | in-None w ↦ ap referred w.nodes-is ∙ ap (map (λ n. node_of n.now)) w.new-nodes.ensures.items
          ∙ sym (ap (λ o. option_map_or referred o []) w.in-None.is)
    ] in
    put_behind referred (node_of c.args.node.now) old taken c.insert.new.self.entries c.swap_remove.result c.push.new.self
    (c.swap_remove.ensures.value ∙ ap (λ k. lookup (same_key k) old) key)
    (λ q. c.swap_remove.ensures.updates.0 q ∙ ap (λ k. cond (same_key k q) None (lookup (same_key q) old)) key)
    (λ q. c.in_ok-insert.ensures.updates.0 q ∙ ap (λ k. cond (same_key k q) (Some c.push.new.self) (lookup (same_key q) taken)) key)
    (ap (map (λ n. node_of n.now)) c.in_ok-push.ensures.items ∙ map-append (λ n. node_of n.now) c.match-swap_remove.nodes.items (c.args.node ∷ [])
    ∙ ap (λ z. z ++ node_of c.args.node.now ∷ []) behind)
