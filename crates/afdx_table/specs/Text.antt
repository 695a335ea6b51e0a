-- The table of a text, or the first refusal: the text, the top, each port after the ports before it, each link after the ports and the links before it.
use Rattle.std.specs.Prelude.{ℕ, if◌then◌else◌, List, [], Result, Ok, Err}
use Rattle.std.specs.Str.{is_utf8}
use Rattle.toml.specs.Data.{Members}
use Rattle.toml.specs.Parse.{parse_document}
use Rattle.afdx_table.specs.declared.fault.TableFault.{TableFault}
use Rattle.afdx_table.specs.declared.fault.TableFault.TheVariants.{Toml}
use Rattle.afdx_table.specs.Refusal.{◌>>=◌, or_refuse}
use Rattle.afdx_table.specs.Content.{Content}
use Rattle.afdx_table.specs.Top.{top_at}
use Rattle.afdx_table.specs.Ports.{ports_from}
use Rattle.afdx_table.specs.Links.{links_from}

-- TOML 1.1, as the library toml reads it: the tree of the bytes, which are UTF-8
unfoldable pub tree_of : List ℕ → Result Members TableFault
tree_of bytes = if is_utf8 bytes then or_refuse Toml (parse_document bytes) else Err Toml

-- the table of a tree
unfoldable pub content_of : Members → Result Content TableFault
content_of ms = do
  top ← top_at ms
  ports ← ports_from top.version 0 [] top.ports
  links ← links_from top.version ports 0 [] top.links
  Ok (record { constant = top.constant; latency = top.latency; ports = ports; links = links })

-- the table of a text's bytes
unfoldable pub table_of : List ℕ → Result Content TableFault
table_of bytes = tree_of bytes >>= content_of
