-- `and_all` makes the empty struct, with the items that its clause names. Assumes `Logic`.
use Rattle.std.proofs.Common.{◌<◌, ◌^◌, [], ◌∷◌, ◌++◌, length, refl}
use seplogic.Ra.Ura.{Ura}
use mir.Syntax.{Fn, Args, a_type, named}
use mir.Val.{Val, vptr}
use mir.MapTy.{inst_fn}
use base.Logic.{SProp, ent, via, fst∗}
use prog.Memory.{Memory}
use prog.Routine.{Routine}
use prog.Wp.{Calls, Loops, WpFn, Tables}
use contract.Lifetimes.{Lfts, Shares, AllOutlive}
use contract.Monad.{Fun}
use contract.Running.{tables, tables_of}
use sound.WpLaws.{WpFn-mono}
use types.Logic.{Logic}
use types.Kit.{‵, raw, ◌$◌, ◌∵◌, !, qed, move, fjoin, suffices, done}
use types.Part.{agg}
use types.Run.{enter, returns, and_then, no_more}
use types.ByLocal.{alloc_all, pass_all, free_all, look_at, get, sets}
use denote.Exit.{yes}
use denote.RattleType.{RattleType, owns}
use denote.Laws.{Is}
use denote.Param.{param, layouts}
use denote.Ref.{shr_vals, shr_Tells}
use denote.Signature.{plain, types_at}
use denote.Slice.{slice_val, shr_slice_vals, shr_slice_Tells}
use denote.Steps.{nothing, owned}
use denote.Struct.Laws.{makes}
use denote.Triple.Clauses.{Clauses, Ended, closing}
use denote.Triple.Entry.{on_entry, alive, Args as Passed}
use denote.Triple.Spec.{Meets, triple_of}
use denote.Triple.Table.{entered}
use denote.Triple.Walked.{says, stay_none_ref, stay_none_slice, Stays, walk_of, ends_at, walked, Goes-none_ref, Goes-none_slice, walk_Meets}
use Rattle.std.specs.contracts.marker.PhantomData as Mark
use Rattle.bytes.proofs.Walks.{none, one, one_made}
use Rattle.afdx_past.specs.contracts.gone.Gone as Gone
use Rattle.afdx_past.specs.contracts.gone.Gone.and_all as F
use Rattle.afdx_past.specs.contracts.gone.Gone.and_all.Key.{name as #self}
use Rattle.afdx_past.proofs.gone.Gone.and_all.Statement as stated
use Rattle.afdx_past.proofs.gone.Gone.and_all.Code as code

module _ (T : RattleType) where
  abbrev args : Args
  args = layouts (a_type ∷ []) (T, tt)

  abbrev of : RattleType
  of = param 0 T

  abbrev function : Fn
  function = inst_fn args code.function

  abbrev ended : Ended
  ended = F.ended T

  abbrev stayed : Stays ended.signature.params ended.kept
  stayed = (stay_none_ref (0 ∷ []) tt (plain (λ _. Gone.the_row of)) yes, (stay_none_slice (1 ∷ []) tt (plain (λ _. of)) yes, tt))

  module _ {M : Type 1} {𝓤 : Ura M} (𝓛 : Logic 𝓤) (at_mem : Memory → SProp 𝓤) (run : Routine → Fun 𝓤) where
    open 𝓛 use {H}

    abbrev held : Clauses 𝓤 ended
    held = F.clauses T 𝓛 at_mem run

    module _ (C : Calls 𝓤 H) (Λ : Loops 𝓤 H) where
      module _ (κs : Lfts 3) (qs : Shares 3) (bounds : AllOutlive 3 ended.signature.outlives κs) (a : Passed ended.signature κs) (g : (held κs a).ghost) where
        abbrev before : Val
        before = vptr a.0.ref_ptr.0 a.0.ref_ptr.1

        abbrev more : Val
        more = slice_val a.1.0.ref_ptr (length a.1.0.now)

        abbrev made : (Gone.the_row of).Denot
        made = record { of = record {}; items = a.0.now.items ++ a.1.0.now }

        abbrev z : (walk_of 𝓛 ended stayed held).Ghost
        z = ((κs, qs, bounds, a, (before ∷ [], (more ∷ [], tt))), g)

        walk : length a.1.0.now < 2 ^ 64 → ent 𝓤 (on_entry 𝓛 ended.signature κs qs a (before ∷ [], (more ∷ [], tt)))
            (WpFn 𝓤 H C Λ function (before ∷ more ∷ []) ((walk_of 𝓛 ended stayed held).post z))
        walk fits =
            qed 𝓛 (raw (alive 𝓛 ended.signature κs qs) ∷ ‵ (owns (types_at ended.signature.params κs) a (before ∷ [], (more ∷ [], tt))) ∷ []) ∵
            enter ! C Λ function (before ∷ more ∷ []) _ $
            alloc_all ! (λ l. pass_all ! refl ((tt, tt), ((tt, (tt, (record { fits = fits }, tt))), tt)) $
            sets ! (agg ! (no_more !)) refl (tt, tt) $
            sets ! (agg ! (and_then ! (get ! refl) (no_more !))) refl (tt, (tt, tt)) $
            nothing ! $ owned ! (Mark.the_row of) (Is (Mark.the_row of)) (makes (Mark.the_type of) tt 𝓛) (record {}) (none ∷ []) (tt, (refl, tt)) $
            one_made ! (Mark.the_row of) (record {}) none $ fjoin ! $
            returns ! (look_at ! 0 refl) $ free_all ! refl $
            suffices ! _ (ends_at 𝓛 ended stayed held z (one none) made (tt, (tt, tt)) (tt, (tt, tt))) $ says ! refl $
            move ! (1 ∷ 2 ∷ 0 ∷ []) $ done !)

    meets : (𝓣 : Tables 𝓤 H) → Meets 𝓛 ended.signature (WpFn 𝓤 H 𝓣.C 𝓣.Λ function) (closing 𝓛 ended held)
    meets 𝓣 =
        walk_Meets 𝓛 ended stayed (Goes-none_ref 𝓛 3 (0 ∷ []) tt (plain (λ _. Gone.the_row of)) yes, (Goes-none_slice 𝓛 3 (1 ∷ []) tt (plain (λ _. of)) yes, tt)) held
        (WpFn 𝓤 H 𝓣.C 𝓣.Λ function) (WpFn-mono 𝓤 H 𝓛.laws 𝓣 function)
        (walked 𝓛 ended stayed held (WpFn 𝓤 H 𝓣.C 𝓣.Λ function) (λ κs. (shr_vals, (shr_slice_vals, tt)))
        (λ κs. (shr_Tells (named 0) κs.0 (Gone.the_row of), (shr_slice_Tells (named 1) κs.1.0 of, tt)))
        (λ κs qs bounds a g are. via 𝓤 _ (fst∗ 𝓤 _ ((held κs a).requires g)) (walk 𝓣.C 𝓣.Λ κs qs bounds a g are.1.0.0.1.0)))

pub and_all_spec : {M : Type 1} → stated.statement M
unfolding tables_of
and_all_spec 𝓤 𝓛 𝓜 𝓡 wired T LT =
    let 𝓣 : Tables 𝓤 𝓛.H = tables_of 𝓤 𝓛.H 𝓜 (tables 𝓤 𝓛.H 𝓜 𝓡 𝓡.env) in
    entered 𝓤 𝓛.H (triple_of 𝓛 (ended T).signature (closing 𝓛 (ended T) (held T 𝓛 𝓜.mem 𝓡.returns))) 𝓣.C 𝓣.Λ (#self (args T)) (function T)
    (code.unfolded 𝓤 𝓛.H 𝓜 𝓡 wired (T, tt)) (meets T 𝓛 𝓜.mem 𝓡.returns 𝓣)
