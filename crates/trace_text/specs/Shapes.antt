-- What a shape of operands gives: its values, side by side.

abbrev pub alone : {A : Type 0} → A → A
alone x = x

abbrev pub pair : {A B : Type 0} → A → B → A × B
pair x y = (x, y)

abbrev pub triple : {A B C : Type 0} → A → B → C → A × B × C
triple x y z = (x, y, z)
