-- The counters of a run and its verdict, as rows (profile).
use Rattle.std.specs.Prelude.{ℕ, codes, decimal, List, [], ◌∷◌, ◌++◌, flat_map}
use Rattle.afdx_count.specs.declared.counters.OutCount.{OutCount}
use Rattle.afdx_count.specs.declared.ports.PortTally.{PortTally}
use Rattle.afdx_count.specs.declared.links.LinkTally.{LinkTally}
use Rattle.afdx_count.specs.Tally.{Tally}
use Rattle.afdx_verdict.specs.declared.summed.RunVerdict.{RunVerdict}
use Rattle.afdx_csv.specs.Csv.{row}

-- ---- columns

-- the columns of the report, by the words of its lines
abbrev pub count_columns : List (List ℕ)
count_columns = codes "kind" ∷ codes "port" ∷ codes "link" ∷ codes "priority" ∷ codes "seen" ∷ codes "cut" ∷ codes "short" ∷ codes "long" ∷ codes "foreign"
    ∷ codes "no-link" ∷ codes "wrong-port" ∷ codes "too-big" ∷ codes "clean" ∷ codes "passed" ∷ codes "policed" ∷ codes "offered" ∷ codes "full"
    ∷ codes "aged" ∷ codes "sent" ∷ []

-- the columns of a run: those of its report, and of its verdict
abbrev pub run_columns : List (List ℕ)
run_columns = count_columns ++ codes "links" ∷ codes "filtered" ∷ codes "lost" ∷ []

-- the columns of a network's run, whose first is the switch
abbrev pub network_run_columns : List (List ℕ)
network_run_columns = codes "switch" ∷ count_columns

-- ---- rows of the switch of a name, under some columns

-- the arrivals at a port
abbrev pub in_row : List (List ℕ) → List ℕ → PortTally → List ℕ
in_row columns switch p = row columns ((codes "switch", switch) ∷ (codes "kind", codes "in") ∷ (codes "port", decimal p.id)
    ∷ (codes "seen", decimal p.input.seen) ∷ (codes "cut", decimal p.input.cut) ∷ (codes "short", decimal p.input.short) ∷ (codes "long", decimal p.input.long)
    ∷ (codes "foreign", decimal p.input.foreign) ∷ (codes "no-link", decimal p.input.no_link) ∷ (codes "wrong-port", decimal p.input.wrong_port)
    ∷ (codes "too-big", decimal p.input.too_big) ∷ (codes "clean", decimal p.input.clean) ∷ [])

-- the clean frames of a link
abbrev pub link_row : List (List ℕ) → List ℕ → LinkTally → List ℕ
link_row columns switch l = row columns ((codes "switch", switch) ∷ (codes "kind", codes "link") ∷ (codes "link", decimal l.id)
    ∷ (codes "passed", decimal l.count.passed) ∷ (codes "policed", decimal l.count.policed) ∷ [])

-- the copies of a priority at a port
abbrev pub class_row : List (List ℕ) → List ℕ → List ℕ → ℕ → OutCount → List ℕ
class_row columns switch priority id c = row columns ((codes "switch", switch) ∷ (codes "kind", codes "out") ∷ (codes "port", decimal id)
    ∷ (codes "priority", priority) ∷ (codes "offered", decimal c.offered) ∷ (codes "full", decimal c.full) ∷ (codes "aged", decimal c.aged)
    ∷ (codes "sent", decimal c.sent) ∷ [])

-- the copies at a port: the high ones, then the low ones
abbrev pub out_rows : List (List ℕ) → List ℕ → PortTally → List ℕ
out_rows columns switch p = class_row columns switch (codes "high") p.id p.high ++ class_row columns switch (codes "low") p.id p.low

-- a row for each line of the report, in its order
abbrev pub counts_rows : List (List ℕ) → List ℕ → Tally → List ℕ
counts_rows columns switch t =
    flat_map (in_row columns switch) t.ports ++ flat_map (link_row columns switch) t.links ++ flat_map (out_rows columns switch) t.ports

-- the verdict of a run
abbrev pub verdict_row : RunVerdict → List ℕ
verdict_row v = row run_columns ((codes "kind", codes "verdict") ∷ (codes "links", decimal v.links) ∷ (codes "policed", decimal v.policed)
    ∷ (codes "filtered", decimal v.filtered) ∷ (codes "lost", decimal v.lost) ∷ [])
