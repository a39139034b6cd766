use Rattle.cert_values.specs.View.{view}
use Rattle.fs_pair.specs.Positions.{positions}
use Rattle.cert_terms.specs.CertificateNames.{place_named, find_in}
use Rattle.cert_terms.specs.TextFunctions.{meanings_by}
use Rattle.cert_text.proofs.Contexts.{by_tables, same_context, told_of, lawful_of}
use Rattle.cert_text.proofs.reader.read_by_states.Goals as goal

pub returns-in-Ok-clause-told : goal.returns-in-Ok-clause-told
returns-in-Ok-clause-told c =
    let a = c.args.a.now in
    let b = c.args.b.now in
    let left = c.args.states.now.0 in
    let right = c.args.states.now.1 in
    let places = c.in-Ok.ensures in
    told_of a b (view c.args.value.now) (by_tables a b left right c.in-Ok.places) c.number_at.result c.read_against.result
    (same_context left right c.in-Ok.places a b c.args.p.now c.number_at.result c.requires.pairing c.requires.left c.requires.right places.positions
    places.format places.left places.right)
    c.number_at.ensures c.read_against.ensures.told

pub returns-in-Ok-clause-lawful : goal.returns-in-Ok-clause-lawful
returns-in-Ok-clause-lawful c =
    let a = c.args.a.now in
    let b = c.args.b.now in
    let left = c.args.states.now.0 in
    let right = c.args.states.now.1 in
    let places = c.in-Ok.ensures in
    lawful_of a b (by_tables a b left right c.in-Ok.places) c.number_at.result
    (meanings_by (find_in (place_named a b (positions a b)) (positions a b) c.number_at.result)) c.read_against.result
    (same_context left right c.in-Ok.places a b c.args.p.now c.number_at.result c.requires.pairing c.requires.left c.requires.right places.positions
    places.format places.left places.right)
    c.read_against.ensures.of c.read_against.ensures.few
