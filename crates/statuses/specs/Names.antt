-- DEFINITION. Names for the lists and numbers that paper 01 speaks of.
use Rattle.std.specs.Prelude.{List, ℕ}

-- bytes as a host passes or lends them
abbrev pub Bytes : Type 0
Bytes = List ℕ

-- what a call is answered: a status of NFS, by its number
abbrev pub Status : Type 0
Status = ℕ

-- a client and a file, by their numbers of 64 bits
abbrev pub Client : Type 0
Client = ℕ

abbrev pub FileNumber : Type 0
FileNumber = ℕ
