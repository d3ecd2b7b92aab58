-- Writing device data as a sheet (document 02, 2/13): the bytes, the call with its refusals, and what reading says of it. Read from the top.
pub mod Form
pub mod Writing
pub mod Laid
pub mod Again
