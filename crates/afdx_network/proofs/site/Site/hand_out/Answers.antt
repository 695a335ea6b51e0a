use Rattle.std.proofs.Common.{◌∙◌, ◌++◌, ℕ, List, set, refl, ap}
use Rattle.afdx_pcap.specs.Record.{whole}
use Rattle.afdx_session.specs.Texts.{Text}
use Rattle.afdx_network.specs.Inner.Outputs.{Output, texts_in}
use Rattle.afdx_network.proofs.Recording.{same_text, there, text_more, gone_stays}
use Rattle.afdx_network.proofs.site.Site.hand_out.Goals.{then-is_full, else-is_full}
use Rattle.afdx_network.proofs.site.Site.hand_out.Goals as goal

abbrev by_number : ℕ → List ℕ → Text
by_number n bytes = (n, bytes)

pub returns-after-is_full : goal.returns-after-is_full
returns-after-is_full c =
    let outputs = c.self.inside.outputs.items in
    let place = c.args.place in
    let port = c.args.port in
    let was : Output = c.index_mut-output.result.now in
    let frame = c.in-Some.frame in
    let out = whole frame.stamp frame.bytes in
    let new : Output = c.push.new.self in
    let made = c.in_ok-push-in-Some.ensures.ok in
    let here = rw (← c.self.view_is) at c.requires.place in
    let is = c.index_mut-output.ensures.value in
    let left = text_more outputs place port was here.0 out here.1 is new made ∙ ap (λ (bytes : List ℕ). set (texts_in outputs) place (by_number port (here.0 ++ bytes))) (same_text frame) in
    let gone = gone_stays outputs place was new (there outputs place port was here.0 out here.1 is) (ap (λ (o : Output). o.gone) made) in
    let goes = rw c.in-Some.is at c.in_ok-frame.ensures.ok in
    elim c.if-is_full.branch [
      | then-is_full w ↦ rw (w.self-is, ← c.self.view_is) (record { out_is = goes; text = here.0; was = here.1; left = left; gone = gone; next = refl })
      | else-is_full w ↦ rw (w.self-is, ← c.self.view_is) (record { out_is = goes; text = here.0; was = here.1; left = left; gone = gone; next = refl })
    ]
