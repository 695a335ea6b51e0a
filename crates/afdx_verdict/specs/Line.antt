-- The line of a run's verdict (profile).
use Rattle.std.specs.Prelude.{ℕ, codes, decimal, List, [], ◌++◌, ◌==◌, if◌then◌else◌}
use Rattle.afdx_verdict.specs.declared.summed.RunVerdict.{RunVerdict}

-- a number of things as text: the word for them has an s, unless there is one
unfoldable pub many : ℕ → List ℕ → List ℕ
many n word = decimal n ++ codes " " ++ word ++ (if n == 1 then [] else codes "s")

-- the line of a verdict: the links and frames that were policed, the frames that were filtered, and the copies that were lost
abbrev pub verdict_line : RunVerdict → List ℕ
verdict_line v =
    codes "policed " ++ many v.links (codes "link") ++ codes " " ++ many v.policed (codes "frame") ++ codes ", filtered " ++ decimal v.filtered
    ++ codes ", lost " ++ decimal v.lost ++ codes "\n"
