-- What the first of all that is due says of the ports of a run.
use Rattle.std.proofs.Common.{◌≡◌, ℕ, ◌<◌, Bool, false, List, [], ◌∷◌, length, map, get_or, slice_get, Option, Some, None, All, ap, sym, ◌∙◌, subst, arith}
use Rattle.std.proofs.lemmas.List.{get_or-map, length-map, get_or_default}
use Rattle.afdx_earliest.specs.Instants.{IsFirstIn}
use Rattle.std.specs.Prelude.{Contains, Any}
use Rattle.std.specs.Option.{option_map}
use Rattle.std.proofs.lemmas.List.Elements.{All-contains, All-map}
use Rattle.afdx_table.specs.declared.rows.PortRow.{PortRow}
use Rattle.afdx_table.specs.Content.{Content}
use Rattle.afdx_port.specs.declared.Settings.{Settings}
use Rattle.afdx_port.specs.declared.Item.{Item}
use Rattle.afdx_port.specs.Service.{Event, instant, service}
use Rattle.afdx_port.specs.Content.{done, due}
use Rattle.afdx_core.specs.declared.step.Row.{Row}
use Rattle.afdx_core.specs.State.{Run, port_after, port_in}
use Rattle.afdx_core.specs.Inner.OutputPorts.{Out, OutletValue, seen, dues_of}
use Rattle.afdx_core.specs.Inner.Engine.{Follows}

-- an output port that follows is due to do what the port of the run is
pub same_due : (t : Content) (rows : List Row) (latest : ℕ) (finished : Bool) (o : Out) → Follows t rows latest finished o → due o.content ≡ due (port_after t rows latest finished o.row)
same_due t rows latest finished o f =
    let at : Settings → List Item → List Event → Option ℕ = λ s items events. option_map instant (slice_get (service s 0 items) (length events)) in
    ap (λ (s : Settings). at s o.content.admitted (done o.content)) f.settings
    ∙ ap (λ (items : List Item). at (port_after t rows latest finished o.row).settings items (done o.content)) f.admitted
    ∙ ap (λ (events : List Event). at (port_after t rows latest finished o.row).settings (port_after t rows latest finished o.row).admitted events) f.done_is

-- what is true of what each output port is due to do is true of the ports of the run
pub all_due : {Z : Type 0} (Q : Option ℕ → Type 0) (r : Run) (outs : List (OutletValue Z)) → r.finished ≡ false → map (λ o. o.row) outs ≡ r.table.ports
    → All (λ o. Follows r.table r.rows r.latest r.finished (seen o)) outs → All Q (dues_of outs)
    → (p : PortRow) → Contains r.table.ports p → Q (due (port_in r p))
all_due {Z} Q r outs still_open rows follow all p among =
    All-contains (λ (q : PortRow). Q (due (port_in r q))) r.table.ports p
    (subst (All (λ (q : PortRow). Q (due (port_in r q)))) rows (All-map (λ (q : PortRow). Q (due (port_in r q))) (λ (o : OutletValue Z). o.row) outs each)) among
  where
    each : All (λ (o : OutletValue Z). Q (due (port_in r o.row))) outs
    each k d within =
        subst Q (get_or-map (λ (o : OutletValue Z). due o.port.content) outs k d (due d.port.content) within ∙ same_due r.table r.rows r.latest r.finished (seen (get_or outs k d)) (follow k d within))
        (all k (due d.port.content) (subst (λ n. k < n) (sym (length-map outs (λ (o : OutletValue Z). due o.port.content))) within))

-- none is due where none of all is
pub none_due : (dues : List (Option ℕ)) → IsFirstIn dues (length dues) None → All (λ (due : Option ℕ). due ≡ None) dues
none_due dues none k d within = get_or_default dues k d None within ∙ none k within

-- some port of the run is due to do what the output port at a place is
pub one_due : {Z : Type 0} (r : Run) (outs : List (OutletValue Z)) (at k : ℕ) → r.finished ≡ false → map (λ o. o.row) outs ≡ r.table.ports
    → All (λ o. Follows r.table r.rows r.latest r.finished (seen o)) outs → k < length (dues_of outs) → get_or (dues_of outs) k None ≡ Some at
    → Any (λ (p : PortRow). due (port_in r p) ≡ Some at) r.table.ports
one_due {Z} r [] at k still_open rows follow within here = absurd (omega (arith, within))
one_due {Z} r (o ∷ os) at k still_open rows follow within here =
    subst (Any (λ (p : PortRow). due (port_in r p) ≡ Some at)) rows (k, q.row, subst (λ n. k < n) (sym (length-map outs (λ (o : OutletValue Z). o.row))) inside, placed, due_is)
  where
    outs : List (OutletValue Z)
    outs = o ∷ os

    q : OutletValue Z
    q = get_or outs k o

    inside : k < length outs
    inside = subst (λ n. k < n) (length-map outs (λ (o : OutletValue Z). due o.port.content)) within

    placed : get_or (map (λ (o : OutletValue Z). o.row) outs) k q.row ≡ q.row
    placed = get_or-map (λ (o : OutletValue Z). o.row) outs k o q.row inside

    due_is : due (port_in r q.row) ≡ Some at
    due_is = sym (same_due r.table r.rows r.latest r.finished (seen q) (follow k o inside)) ∙ sym (get_or-map (λ (o : OutletValue Z). due o.port.content) outs k o None inside) ∙ here
