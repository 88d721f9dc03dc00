-- What is taken out is kept within the document, and what is put there are the bytes of the damage.
use Rattle.std.proofs.Common.{◌≡◌, ◌+◌, ◌-◌, min, length, sym, ap, ◌∙◌}
use Rattle.std.specs.List.{splice}
use Rattle.std.proofs.lemmas.Iterator.{items_from_drains, YieldsList-from_slice}
use Rattle.std.proofs.lemmas.Iterator.Consumers.{YieldsList-from_copied}
use Rattle.std.proofs.lemmas.List.{map-id}
use Rattle.walkthrough.proofs.Cutting.{splice_within}
use Rattle.walkthrough.proofs.damage.Damage.done_to.Goals as goal

pub returns : goal.returns
returns c =
    let made = c.in_ok-splice.ensures.items in
    let document = c.args.document.now in
    let damage = c.args.self.now in
    let start = c.min-start.result in
    let starts : start ≡ min damage.place (length document) = c.min-start.ensures ∙ ap (min damage.place) (c.len.ensures ∙ c.in_ok-bytes.ensures.len) in
    let counts : c.min.result ≡ min damage.taken (length document - start) = c.min.ensures ∙ ap (λ n. min damage.taken (n - start)) (c.len-2.ensures ∙ c.in_ok-bytes.ensures.len) in
    let put : made.1 ≡ damage.put.now = sym (map-id made.1) ∙ items_from_drains made.1 (made.3.1.0, made.3.1.1, λ _. (made.3.0, made.3.1.2)) (YieldsList-from_copied (YieldsList-from_slice damage.put.now (cc))) in
    made.4
    ∙ ap (λ l. splice l start (start + c.min.result) made.1) c.in_ok-bytes.ensures.items
    ∙ ap (splice document start (start + c.min.result)) put
    ∙ splice_within document damage.put.now damage.place damage.taken start c.min.result starts counts
