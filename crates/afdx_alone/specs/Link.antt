-- The numbers of a link.
use Rattle.std.specs.Prelude.{◌≡◌, ◌≤◌, ◌*◌, ℕ}
use Rattle.afdx_units.specs.Time.{bag_ms}
use Rattle.afdx_alone.specs.declared.link.Alone.{Alone}

-- the numbers of a link: ms, µs and bytes
pub record HasNumbers (link : Alone) (id bag jitter size : ℕ) : Type 0 where
  pub id_is : link.id ≡ id
  pub id_limit : id ≤ 65535
  pub bag_is : bag_ms link.bag ≡ bag
  pub jitter_is : link.jitter ≡ jitter * 1000
  pub size_is : link.max_size ≡ size
