-- What bytes may be of a piece of a grammar: it stands whole at their front, or bytes must follow, or none can help.

pub data Read (A : Type 0) : Type 0 where
  whole : A → Read A
  short : Read A
  bad : Read A

-- the same of what is made of the piece
abbrev pub read_map : {A B : Type 0} → (A → B) → Read A → Read B
read_map f (whole a) = whole (f a)
read_map f short = short
read_map f bad = bad
