-- What the words of a network file name (profile).
use Rattle.std.specs.Prelude.{ℕ, ◌+◌, ◌-◌, ◌==◌, ◌&&◌, ◌||◌, Bool, nat_le, codes, if◌then◌else◌, List, [], ◌∷◌, ◌++◌, length, take, drop, position, Option, Some, None, option_map, option_and_then}
use Rattle.std.specs.Fmt.{decimal}
use Rattle.std.specs.List.{list_all}
use Rattle.afdx_wiring.specs.declared.fault.At.{At}
use Rattle.afdx_wiring.specs.declared.fault.At.TheVariants as place
use Rattle.afdx_wiring.specs.declared.fault.Key.{Key}
use Rattle.afdx_wiring.specs.declared.fault.Key.TheVariants as key

-- a key as it is written in the file, and in the line of a fault
abbrev pub key_text : Key → List ℕ
key_text key.Version = codes "version"
key_text key.OneLine = codes "one_line"
key_text key.Switch = codes "switch"
key_text key.Wire = codes "wire"
key_text key.Name = codes "name"
key_text key.Table = codes "table"
key_text key.LeastLatency = codes "least_latency_us"
key_text key.From = codes "from"
key_text key.To = codes "to"
key_text key.Delay = codes "delay_ns"
key_text key.Down = codes "down"

-- a place of the file in the line of a fault
abbrev pub place_text : At → List ℕ
place_text place.Top = codes "top"
place_text (place.Switch n) = codes "switch " ++ decimal n
place_text (place.Wire n) = codes "wire " ++ decimal n

-- ---- names

-- ASCII: a digit, a capital, a small letter, `-` or `_`
abbrev pub is_name_byte : ℕ → Bool
is_name_byte b =
    (nat_le 48 b && nat_le b 57) || (nat_le 65 b && nat_le b 90) || (nat_le 97 b && nat_le b 122) || (b == 45) || (b == 95)

-- a switch has a name of 1 to 16 of them
abbrev pub is_name : List ℕ → Bool
is_name text = nat_le 1 (length text) && nat_le (length text) 16 && list_all is_name_byte text

-- ---- ends

-- a number that ends in this decimal digit, if the digit is from low to high
abbrev pub digit : (low high base : ℕ) → ℕ → Option ℕ
digit low high base d = if nat_le (48 + low) d && nat_le d (48 + high) then Some (base + d - 48) else None

-- the number of a port, from 1 to 24, as decimal digits with no zero before them
abbrev pub port_in : List ℕ → Option ℕ
port_in (d ∷ []) = digit 1 9 0 d
port_in (tens ∷ d ∷ []) = if tens == 49 then digit 0 9 10 d else if tens == 50 then digit 0 4 20 d else None
port_in text = None

-- an end as it is written: the name of a switch, a dot and the number of a port
abbrev pub end_in : List ℕ → Option (List ℕ × ℕ)
end_in text =
    option_and_then
    (λ dot. if is_name (take dot text) then option_map (λ port. (take dot text, port)) (port_in (drop (dot + 1) text)) else None)
    (position (λ b. b == 46) text)
