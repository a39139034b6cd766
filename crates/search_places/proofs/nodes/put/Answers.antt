use Rattle.search_places.proofs.Finding.{puts_last, puts_again}
use Rattle.search_places.proofs.nodes.put.Goals as goal

pub returns-in-Some : goal.returns-in-Some
returns-in-Some c =
    let o = c.in_ok-number.ensures.old in
    puts_again (record { left = c.args.left; right = c.args.right }) c.args.fact c.new.result c.args.nodes.now.entries c.insert_full.new.self.entries
    c.in_ok-number.number c.in-Some.entry c.in_ok-number.ensures.entries c.new.ensures.items c.in_ok-number.ensures.index (cc)

pub returns-in-None : goal.returns-in-None
returns-in-None c =
    let o = c.in_ok-number.ensures.old in
    puts_last (record { left = c.args.left; right = c.args.right }) c.args.fact c.new.result c.args.nodes.now.entries c.insert_full.new.self.entries
    c.in_ok-number.number c.new-in-None.result.items c.in_ok-number.ensures.entries c.new.ensures.items c.in_ok-number.ensures.index
    (cc) c.new-in-None.ensures.items
