use Rattle.std.proofs.Common.{◌≡◌, ℕ, ◌<◌, ◌==◌, ◌||◌, false, length, drop, slice_index_or}
use Rattle.std.specs.List.{list_any}
use Rattle.afdx_trace.proofs.flags.mark_sent.Given as goal

abbrev pub invariant-loop-copy : goal.invariant-loop-copy
invariant-loop-copy l = record {
  len : length l.flags ≡ length l.initial.flags;
  marked : (number : ℕ) → number < length l.initial.flags
      → (slice_index_or l.initial.flags number false || list_any (λ x. x.item.number == number) l.sent)
      ≡ (slice_index_or l.flags number false || list_any (λ x. x.item.number == number) (drop l.copy-index l.sent));
}
