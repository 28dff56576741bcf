-- The lengths of list records.
pub mod Lengths
