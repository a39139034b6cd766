-- What is read where it is known what the bytes spell.
use Rattle.std.proofs.Common.{◌≡◌, ℕ, List, map, Ok, Err, subst}
use Rattle.std.specs.Prelude.{Result, IfOk, IfErr}
use Rattle.fs_model.specs.Machines.{Fsmd}
use Rattle.cert_bisimulation.specs.Tables.{Node}
use Rattle.sym_facts.specs.Facts.{Fact}
use Rattle.cert_model.specs.declared.cert.Cert.{Cert}
use Rattle.cert_model.specs.View.{node_of}
use Rattle.cert_facts.specs.declared.faults.CertError.{CertError}
use Rattle.cert_facts.specs.declared.faults.CertError.TheVariants.{NoMemory}
use Rattle.cert_text.specs.Refusals.{SpellsNodes, IsRefusedAsCertificate}

module _ (a b : Fsmd) (bytes written : List ℕ) (ns : List (Node Fact)) (is : written ≡ bytes) (spelled : SpellsNodes a b bytes ns) where
  pub same : (one : (ms ks : List (Node Fact)) → SpellsNodes a b bytes ms → SpellsNodes a b bytes ks → ms ≡ ks) (r : Result Cert CertError)
      → IfOk r (λ d. SpellsNodes a b written (map node_of d.nodes.items)) → IfOk r (λ d. map node_of d.nodes.items ≡ ns)
  same one (Ok d) h = one (map node_of d.nodes.items) ns (subst (λ bs. SpellsNodes a b bs (map node_of d.nodes.items)) is h) spelled
  same one (Err e) h = tt

  pub refused : (taken : (ms : List (Node Fact)) (e : CertError) → SpellsNodes a b bytes ms → IsRefusedAsCertificate a b bytes e → e ≡ NoMemory)
      (r : Result Cert CertError)
      → IfErr r (λ e. IsRefusedAsCertificate a b written e) → IfErr r (λ e. e ≡ NoMemory)
  refused taken (Ok d) h = tt
  refused taken (Err e) h = taken ns e spelled (subst (λ bs. IsRefusedAsCertificate a b bs e) is h)
